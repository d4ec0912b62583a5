-- Which number a text writes.
--
-- A number is decimal digits, or `0x` and hexadecimal digits of either case, one digit or more; leading zeros change
-- nothing. It is at most 4,294,967,295, the greatest that 32 bits hold.
use Rattle.std.specs.Prelude.{◌≡◌, ℕ, ◌==◌, nat_le, if◌then◌else◌, ◌&&◌, not, List, [], ◌∷◌, length, Option, Some}
use Rattle.std.specs.Prelude.{None, Result, Ok, Err, codes, refl}
use Rattle.std.specs.List.{list_all}
use Rattle.std.specs.Char.{is_digit}
use Rattle.std.specs.Str.Parse.{digits_value}
use Rattle.numerals.specs.declared.NumeralError.{NumeralError}
use Rattle.numerals.specs.declared.NumeralError.TheVariants.{Malformed, TooLarge}

abbrev pub within : ℕ → Result ℕ NumeralError
within n = if nat_le n 4294967295 then Ok n else Err TooLarge

-- the number that digits of a radix write
abbrev pub numeral : ℕ → List ℕ → Result ℕ NumeralError
numeral radix digits =
    if not (length digits == 0) && list_all (λ c. is_digit c radix) digits then within (digits_value radix digits)
    else Err Malformed

-- the digits after `0x`, if a text begins with it
abbrev pub prefixed : List ℕ → Option (List ℕ)
prefixed [] = None
prefixed (a ∷ []) = None
prefixed (a ∷ b ∷ digits) = if (a == 48) && (b == 120) then Some digits else None

abbrev pub magnitude_by : List ℕ → Option (List ℕ) → Result ℕ NumeralError
magnitude_by text (Some digits) = numeral 16 digits
magnitude_by text None = numeral 10 text

-- the number that a text writes
abbrev pub magnitude : List ℕ → Result ℕ NumeralError
magnitude text = magnitude_by text (prefixed text)

hexadecimal : magnitude (codes "0x0Ff") ≡ Ok 255
hexadecimal = refl

leading_zero : magnitude (codes "010") ≡ Ok 10
leading_zero = refl

no_digit : magnitude (codes "0x") ≡ Err Malformed
no_digit = refl

one_too_many : magnitude (codes "4294967296") ≡ Err TooLarge
one_too_many = refl
