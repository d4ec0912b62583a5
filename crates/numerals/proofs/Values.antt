-- What digits write.
use Rattle.std.proofs.Common.{◌≡◌, ℕ, ◌+◌, ◌*◌, ◌<◌, ◌≤◌, zero, suc, false, leb, List, [], ◌∷◌, length, drop, Err, refl, arith, slice_index_or}
use Rattle.std.proofs.Math.Nat.{le-mul_of_pos_right}
use Rattle.std.proofs.lemmas.Bool.Decides.{nat_tests}
use Rattle.std.specs.Char.{digit_value}
use Rattle.std.specs.Str.Parse.{digits_value_after}
use Rattle.numerals.specs.Numerals.{within}
use Rattle.numerals.specs.declared.NumeralError.TheVariants.{TooLarge}

-- more digits write no less
pub value_more : (radix n : ℕ) (ds : List ℕ) → 0 < radix → n ≤ digits_value_after radix n ds
value_more radix n [] h = omega arith
value_more radix n (c ∷ ds) h =
    let one : n ≤ n * radix = le-mul_of_pos_right n h in
    let rest : n * radix + digit_value c ≤ digits_value_after radix (n * radix + digit_value c) ds = value_more radix
    (n * radix + digit_value c) ds h in
    omega (arith, one, rest)

pub value_past : (radix n i : ℕ) (ds : List ℕ) → 0 < radix → i < length ds
    → n * radix + digit_value (slice_index_or ds i 0) ≤ digits_value_after radix n (drop i ds)
value_past radix n i [] h l = absurd (omega arith)
value_past radix n zero (c ∷ ds) h l = value_more radix (n * radix + digit_value c) ds h
value_past radix n (suc i) (c ∷ ds) h l = value_past radix n i ds h (omega arith)

pub too_large : (n : ℕ) → 4294967295 < n → within n ≡ Err TooLarge
too_large n h = let t : leb n 4294967295 ≡ false = grind (arith, nat_tests) in rw t refl
