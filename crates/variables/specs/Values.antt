-- Values as an editor writes them (DAP specification, `SetVariableArguments.value`).
--
-- A value is a text: `0x` and 1 to 8 hexadecimal digits of either case, or a decimal number from -2,147,483,648 to
-- 4,294,967,295. Leading zeros change nothing, and there is no other sign than one `-` before decimal digits. A negative
-- number is written in two's complement, so -1 and 4,294,967,295 are one word.
use Rattle.std.specs.Prelude.{◌≡◌, ℕ, ◌==◌, nat_le, ◌^◌, if◌then◌else◌, List, [], ◌∷◌, length, Option, Some, None}
use Rattle.std.specs.Prelude.{codes, refl}
use Rattle.std.specs.Result.{result_ok}
use Rattle.numerals.specs.Numerals.{numeral}
use Rattle.numerals.specs.Words.{word_of}
use Rattle.rv32i.specs.Machine.{difference}

-- the word of a negative number, by its magnitude
abbrev pub if_signed : Option ℕ → Option ℕ
if_signed None = None
if_signed (Some n) = if nat_le n (2 ^ 31) then Some (difference 0 n) else None

-- the word that decimal digits after a `-` write
abbrev pub negated : List ℕ → Option ℕ
negated digits = if_signed (result_ok (numeral 10 digits))

-- the word that a text writes, if it writes one
abbrev pub value_of : List ℕ → Option ℕ
value_of [] = None
value_of (sign ∷ digits) = if sign == 45 then negated digits else word_of (sign ∷ digits)

minus_one : value_of (codes "-1") ≡ Some 0xffffffff
minus_one = refl

the_least : value_of (codes "-2147483648") ≡ Some 0x80000000
the_least = refl

one_less : value_of (codes "-2147483649") ≡ None
one_less = refl

the_greatest : value_of (codes "4294967295") ≡ Some 0xffffffff
the_greatest = refl

hexadecimal : value_of (codes "0x0000001F") ≡ Some 31
hexadecimal = refl

nine_digits : value_of (codes "0x000000001") ≡ None
nine_digits = refl

no_sign_before_hexadecimal : value_of (codes "-0x1") ≡ None
no_sign_before_hexadecimal = refl

no_plus : value_of (codes "+1") ≡ None
no_plus = refl
