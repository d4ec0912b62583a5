-- Digits, and what they write.
use Rattle.scripts.proofs.Common.{arith, digit_value, digits_value_after, drop, false, fitting, length, List, nat_lt, nat_tests, None, refl, slice_index_or, Some, true, ℕ, ◌*◌, ◌+◌, ◌<◌, ◌^◌, ◌≡◌, ◌≤◌}
use Rattle.numerals.proofs.Values.{value_past}

-- a number that does not fit
pub too_large : (n : ℕ) → 2 ^ 64 ≤ n → None ≡ fitting n
too_large n h = let t : nat_lt n (2 ^ 64) ≡ false = grind (arith, nat_tests) in rw t refl

pub fits : (n : ℕ) → n < 2 ^ 64 → Some n ≡ fitting n
fits n h = let t : nat_lt n (2 ^ 64) ≡ true = grind (arith, nat_tests) in rw t refl

pub is_large : (n : ℕ) → None ≡ fitting n → 2 ^ 64 ≤ n
is_large n h = grind (arith, nat_tests, h)

-- more digits after those that do not fit
pub past : (value i : ℕ) (digits : List ℕ) → i < length digits → None ≡ fitting (value * 10 + digit_value (slice_index_or digits i 0))
    → None ≡ fitting (digits_value_after 10 value (drop i digits))
past value i digits h large =
    let here = is_large (value * 10 + digit_value (slice_index_or digits i 0)) large in
    let more = value_past 10 value i digits (omega arith) h in
    too_large (digits_value_after 10 value (drop i digits)) (omega (arith, here, more))
