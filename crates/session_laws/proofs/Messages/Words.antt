-- Plain texts of a length: words of the adapter's own, and numbers.
--
-- That a text is plain is a test, so `simp` finds it of one that is joined of others, as `omega` finds its length.
use Rattle.session_laws.proofs.Messages.Common.{[], agree_below_at, all_plain, and_from, and_parts, are_plain, arith, decimal, digit_glyph, digits_onto, eqb, false, if_keeps, is_plain_byte, IsUtf8, leb, leb-true, length, List, negsuc, plain_texts_stand, plain_utf8, pos, refl, signed_decimal, suc, true, written_length, zero, ℕ, ℤ, ◌%◌, ◌&&◌, ◌+◌, ◌/◌, ◌<◌, ◌∷◌, ◌≡◌, ◌≤◌}
use Rattle.std.specs.Fmt.{digits}

-- a text that JSON has as it is, of at most this many bytes
pub record IsPlainWithin (most : ℕ) (text : List ℕ) : Type 0 where
  pub plain : are_plain text ≡ true
  pub few : length text ≤ most

pub utf8_of : {most : ℕ} {text : List ℕ} → IsPlainWithin most text → IsUtf8 text
utf8_of {text = text} h = plain_utf8 text (all_plain text h.plain)

pub written_of : {most : ℕ} {text : List ℕ} → IsPlainWithin most text → written_length text ≤ most + 2
written_of {text = text} h = omega (arith, plain_texts_stand text (all_plain text h.plain))

-- one that is written out
pub spelled : (most : ℕ) (text : List ℕ) → (are_plain text && leb (length text) most) ≡ true → IsPlainWithin most text
spelled most text h =
    let both = and_parts (are_plain text) (leb (length text) most) h in
    record { plain = both.0; few = leb-true (length text) most both.1 }

-- ---- numbers

glyph_plain : (d : ℕ) → d < 16 → is_plain_byte (digit_glyph false d) ≡ true
glyph_plain d below = agree_below_at (λ n. is_plain_byte (digit_glyph false n)) (λ n. true) 16 d refl below

onto_plain : (base : ℕ) → ((n : ℕ) → n % base < 16) → (k n : ℕ) (acc : List ℕ) → are_plain acc ≡ true
    → are_plain (digits_onto k base false n acc) ≡ true
onto_plain base small zero n acc h = h
onto_plain base small (suc k) n acc h =
    let next : are_plain (digit_glyph false (n % base) ∷ acc) ≡ true = and_from _ _ (glyph_plain (n % base) (small n)) h in
    if_keeps (λ (l : List ℕ). are_plain l ≡ true) (eqb (n / base) 0) _ _ (λ _. next) (λ _. onto_plain base small k (n / base) _ next)

onto_few : (base k n : ℕ) (acc : List ℕ) → length (digits_onto k base false n acc) ≤ k + length acc
onto_few base zero n acc = omega arith
onto_few base (suc k) n acc =
    if_keeps (λ (l : List ℕ). length l ≤ suc k + length acc) (eqb (n / base) 0) _ _ (λ _. omega arith)
    (λ _. omega (arith, onto_few base k (n / base) (digit_glyph false (n % base) ∷ acc)))

pub decimal_plain : (n : ℕ) → are_plain (decimal n) ≡ true
unfolding digits
decimal_plain n = onto_plain 10 (λ m. omega arith) 64 n [] refl

pub hexadecimal_plain : (n : ℕ) → are_plain (digits 16 false n) ≡ true
unfolding digits
hexadecimal_plain n = onto_plain 16 (λ m. omega arith) 64 n [] refl

pub digits_few : (base n : ℕ) → length (digits base false n) ≤ 64
unfolding digits
digits_few base n = onto_few base 64 n []

pub signed_plain : (z : ℤ) → are_plain (signed_decimal z) ≡ true
signed_plain (pos n) = decimal_plain n
signed_plain (negsuc n) = decimal_plain (suc n)

pub signed_few : (z : ℤ) → length (signed_decimal z) ≤ 65
signed_few (pos n) = omega (arith, digits_few 10 n)
signed_few (negsuc n) = omega (arith, digits_few 10 (suc n))
