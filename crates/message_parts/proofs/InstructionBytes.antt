-- The text of the bytes of a word is taken for that word.
use Rattle.message_parts.proofs.Common.{[], are_ascii, arith, as_str, hex_digit, IfSome, is_word, IsUtf8-are_ascii, List, ltb-true, refl, Some, true, ℕ, ◌%◌, ◌/◌, ◌<◌, ◌^◌, ◌∷◌, ◌≡◌}
use Rattle.message_parts.specs.InstructionBytes.{bytes_text, instruction_bytes, word_of_bytes}
use Rattle.message_parts.proofs.Addresses.{Fine, fine, sixteen, kept_word, word_in-address_text}
use Rattle.message_parts.proofs.Lawful.{Lawful, then_is}

-- it has the digits of the word's own text, in another order
pub word_of_bytes-bytes_text : (n : ℕ) → n < 2 ^ 32 → word_of_bytes (bytes_text n) ≡ Some n
unfolding word_of_bytes
word_of_bytes-bytes_text n l = word_in-address_text n l

ascii_pairs : (a b c d e f g h : ℕ) → Fine a → Fine b → Fine c → Fine d → Fine e → Fine f → Fine g → Fine h
    → are_ascii (hex_digit a ∷ hex_digit b ∷ 32 ∷ hex_digit c ∷ hex_digit d ∷ 32 ∷ hex_digit e ∷ hex_digit f ∷ 32 ∷ hex_digit g ∷ hex_digit h ∷ []) ≡ true
ascii_pairs a b c d e f g h fa fb fc fd fe ff fg fh =
    rw (fa.ascii, fb.ascii, fc.ascii, fd.ascii, fe.ascii, ff.ascii, fg.ascii, fh.ascii) refl

pub ascii-bytes_text : (n : ℕ) → n < 2 ^ 32 → are_ascii (bytes_text n) ≡ true
ascii-bytes_text n l =
    let top : n / 2 ^ 28 < 16 = omega arith in
    ascii_pairs (n / 2 ^ 4 % 16) (n % 16) (n / 2 ^ 12 % 16) (n / 2 ^ 8 % 16) (n / 2 ^ 20 % 16) (n / 2 ^ 16 % 16) (n / 2 ^ 28)
    (n / 2 ^ 24 % 16)
    (fine _ (sixteen (n / 2 ^ 4))) (fine _ (sixteen n)) (fine _ (sixteen (n / 2 ^ 12))) (fine _ (sixteen (n / 2 ^ 8)))
    (fine _ (sixteen (n / 2 ^ 20))) (fine _ (sixteen (n / 2 ^ 16))) (fine _ top) (fine _ (sixteen (n / 2 ^ 24)))

-- what is found is a word
kept_bytes : (text : List ℕ) → IfSome (word_of_bytes text) (λ m. is_word m ≡ true)
unfolding word_of_bytes
kept_bytes (a ∷ b ∷ _ ∷ c ∷ d ∷ _ ∷ e ∷ f ∷ _ ∷ g ∷ h ∷ []) = kept_word (48 ∷ 120 ∷ g ∷ h ∷ e ∷ f ∷ c ∷ d ∷ a ∷ b ∷ [])
kept_bytes _ = tt

pub lawful_instruction_bytes : {n : ℕ} → Lawful n instruction_bytes
lawful_instruction_bytes {n} = record {
  back = λ x h. word_of_bytes-bytes_text x (ltb-true _ _ h);
  kept = λ d. then_is _ (as_str d) word_of_bytes kept_bytes;
  shallow = λ x. omega arith;
  no_float = λ x. refl;
  ordered = λ x. refl;
  small = λ x h. tt;
  plain = λ x h t. IsUtf8-are_ascii (bytes_text x) (ascii-bytes_text x (ltb-true _ _ h));
}
