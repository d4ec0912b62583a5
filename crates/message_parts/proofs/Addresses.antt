-- The text of a word is taken for that word.
use Rattle.message_parts.proofs.Common.{[], address, address_text, and_parts, are_ascii, arith, as_str, Bool, Err, false, hex_digit, IfSome, if◌then◌else◌, is_word, IsUtf8-are_ascii, le-leb, length, List, lt-ltb, ltb-true, nat_le, nat_lt, None, not, Ok, Option, refl, Some, true, word_in, word_of, ℕ, ◌%◌, ◌&&◌, ◌*◌, ◌+◌, ◌/◌, ◌<◌, ◌==◌, ◌^◌, ◌∷◌, ◌≡◌, ◌≤◌}
use Rattle.std.specs.Char.{digit_value, is_digit}
use Rattle.std.specs.List.{list_all}
use Rattle.std.specs.Str.Parse.{digits_value}
use Rattle.std.proofs.lemmas.Bool.Decides.{nat_tests}
use Rattle.byte_strings.proofs.Below.{all_below, all_below_at}
use Rattle.numerals.specs.Numerals.{magnitude_by, numeral, prefixed, within}
use Rattle.numerals.specs.declared.NumeralError.TheVariants.{Malformed, TooLarge}
use Rattle.message_parts.proofs.Lawful.{Lawful, then_is}

-- ---- one digit

-- it has its value, and is ASCII
is_fine : ℕ → Bool
is_fine d = (digit_value (hex_digit d) == d) && nat_lt (hex_digit d) 128

all_fine : all_below 16 is_fine ≡ true
unfolding all_below is_fine
all_fine = refl

pub record Fine (d : ℕ) : Type 0 where
  pub value : digit_value (hex_digit d) ≡ d
  pub ascii : nat_lt (hex_digit d) 128 ≡ true

pub fine : (d : ℕ) → d < 16 → Fine d
unfolding is_fine
fine d l =
    let t : is_fine d ≡ true = all_below_at is_fine 16 d all_fine l in let p = and_parts (digit_value (hex_digit d) == d) _ t in
    record { value = grind (arith, nat_tests); ascii = p.1 }

pub sixteen : (n : ℕ) → n % 16 < 16
sixteen n = omega arith

-- ---- eight digits

places_sum : (n : ℕ) → n < 2 ^ 32
    → (((((((0 * 16 + n / 2 ^ 28) * 16 + n / 2 ^ 24 % 16) * 16 + n / 2 ^ 20 % 16) * 16 + n / 2 ^ 16 % 16) * 16 + n / 2 ^ 12 % 16) * 16 + n / 2 ^ 8 % 16) * 16 + n / 2 ^ 4 % 16) * 16 + n % 16 ≡ n
places_sum n l = omega arith

-- the digits of a text, if each has a value below sixteen, write the sum of the values in their places
read_eight : (a b c d e f g h : ℕ) → Fine a → Fine b → Fine c → Fine d → Fine e → Fine f → Fine g → Fine h → a < 16 → b < 16 → c < 16
    → d < 16 → e < 16 → f < 16 → g < 16 → h < 16 → (n : ℕ) → n ≤ 4294967295
    → (((((((0 * 16 + a) * 16 + b) * 16 + c) * 16 + d) * 16 + e) * 16 + f) * 16 + g) * 16 + h ≡ n
    → word_in (48 ∷ 120 ∷ hex_digit a ∷ hex_digit b ∷ hex_digit c ∷ hex_digit d ∷ hex_digit e ∷ hex_digit f ∷ hex_digit g ∷ hex_digit h ∷ []) ≡ Some n
read_eight a b c d e f g h fa fb fc fd fe ff fg fh la lb lc ld le lf lg lh n small sum =
    rw (fa.value, fb.value, fc.value, fd.value, fe.value, ff.value, fg.value, fh.value, lt-ltb _ _ la, lt-ltb _ _ lb, lt-ltb _ _ lc, lt-ltb _ _ ld, lt-ltb _ _ le, lt-ltb _ _ lf, lt-ltb _ _ lg, lt-ltb _ _ lh, sum, le-leb _ _ small) refl

pub word_in-address_text : (n : ℕ) → n < 2 ^ 32 → word_in (address_text n) ≡ Some n
word_in-address_text n l =
    let top : n / 2 ^ 28 < 16 = omega arith in
    read_eight (n / 2 ^ 28) (n / 2 ^ 24 % 16) (n / 2 ^ 20 % 16) (n / 2 ^ 16 % 16) (n / 2 ^ 12 % 16) (n / 2 ^ 8 % 16) (n / 2 ^ 4 % 16)
    (n % 16)
    (fine _ top) (fine _ (sixteen (n / 2 ^ 24))) (fine _ (sixteen (n / 2 ^ 20))) (fine _ (sixteen (n / 2 ^ 16)))
    (fine _ (sixteen (n / 2 ^ 12))) (fine _ (sixteen (n / 2 ^ 8))) (fine _ (sixteen (n / 2 ^ 4))) (fine _ (sixteen n))
    top (sixteen (n / 2 ^ 24)) (sixteen (n / 2 ^ 20)) (sixteen (n / 2 ^ 16)) (sixteen (n / 2 ^ 12)) (sixteen (n / 2 ^ 8))
    (sixteen (n / 2 ^ 4)) (sixteen n) n (omega (arith, l)) (places_sum n l)

ascii_eight : (a b c d e f g h : ℕ) → Fine a → Fine b → Fine c → Fine d → Fine e → Fine f → Fine g → Fine h
    → are_ascii (48 ∷ 120 ∷ hex_digit a ∷ hex_digit b ∷ hex_digit c ∷ hex_digit d ∷ hex_digit e ∷ hex_digit f ∷ hex_digit g ∷ hex_digit h ∷ []) ≡ true
ascii_eight a b c d e f g h fa fb fc fd fe ff fg fh =
    rw (fa.ascii, fb.ascii, fc.ascii, fd.ascii, fe.ascii, ff.ascii, fg.ascii, fh.ascii) refl

pub ascii-address_text : (n : ℕ) → n < 2 ^ 32 → are_ascii (address_text n) ≡ true
ascii-address_text n l =
    let top : n / 2 ^ 28 < 16 = omega arith in
    ascii_eight (n / 2 ^ 28) (n / 2 ^ 24 % 16) (n / 2 ^ 20 % 16) (n / 2 ^ 16 % 16) (n / 2 ^ 12 % 16) (n / 2 ^ 8 % 16) (n / 2 ^ 4 % 16)
    (n % 16)
    (fine _ top) (fine _ (sixteen (n / 2 ^ 24))) (fine _ (sixteen (n / 2 ^ 20))) (fine _ (sixteen (n / 2 ^ 16)))
    (fine _ (sixteen (n / 2 ^ 12))) (fine _ (sixteen (n / 2 ^ 8))) (fine _ (sixteen (n / 2 ^ 4))) (fine _ (sixteen n))

-- ---- the form

kept_within : (n : ℕ) → IfSome (word_of (within n)) (λ m. is_word m ≡ true)
kept_within n = by_test (nat_le n 4294967295) refl where
  by_test : (b : Bool) → nat_le n 4294967295 ≡ b → IfSome (word_of (if b then Ok n else Err TooLarge)) (λ m. is_word m ≡ true)
  by_test true e = let small : n ≤ 4294967295 = grind (arith, nat_tests) in lt-ltb n (2 ^ 32) (omega (arith, small))
  by_test false e = tt

kept_numeral : (radix : ℕ) (digits : List ℕ) → IfSome (word_of (numeral radix digits)) (λ m. is_word m ≡ true)
kept_numeral radix digits = by_test (not (length digits == 0) && list_all (λ c. is_digit c radix) digits) where
  by_test : (b : Bool) → IfSome (word_of (if b then within (digits_value radix digits) else Err Malformed)) (λ m. is_word m ≡ true)
  by_test true = kept_within (digits_value radix digits)
  by_test false = tt

-- what a text is taken for is a word
pub kept_word : (text : List ℕ) → IfSome (word_in text) (λ m. is_word m ≡ true)
kept_word text = by_prefix (prefixed text) where
  by_prefix : (o : Option (List ℕ)) → IfSome (word_of (magnitude_by text o)) (λ m. is_word m ≡ true)
  by_prefix None = kept_numeral 10 text
  by_prefix (Some digits) = kept_numeral 16 digits

pub lawful_address : {n : ℕ} → Lawful n address
lawful_address {n} = record {
  back = λ x h. word_in-address_text x (ltb-true _ _ h);
  kept = λ d. then_is _ (as_str d) word_in kept_word;
  shallow = λ x. omega arith;
  no_float = λ x. refl;
  ordered = λ x. refl;
  small = λ x h. tt;
  plain = λ x h t. IsUtf8-are_ascii (address_text x) (ascii-address_text x (ltb-true _ _ h));
}
