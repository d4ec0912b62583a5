-- Which word of 32 bits a text writes.
--
-- It is `0x` and 1 to 8 hexadecimal digits of either case, or decimal digits that write at most 4,294,967,295. Leading
-- zeros change nothing, but as nine digits they are too many.
use Rattle.std.specs.Prelude.{◌≡◌, ℕ, nat_le, if◌then◌else◌, List, length, Option, Some, None, codes, refl}
use Rattle.std.specs.Result.{result_ok}
use Rattle.numerals.specs.Numerals.{numeral, prefixed}

abbrev pub word_by : List ℕ → Option (List ℕ) → Option ℕ
word_by text (Some digits) = if nat_le (length digits) 8 then result_ok (numeral 16 digits) else None
word_by text None = result_ok (numeral 10 text)

-- the word that a text writes, if it writes one
abbrev pub word_of : List ℕ → Option ℕ
word_of text = word_by text (prefixed text)

hexadecimal : word_of (codes "0x0001000C") ≡ Some 65548
hexadecimal = refl

nine_digits : word_of (codes "0x000010000") ≡ None
nine_digits = refl

decimal_with_leading_zeros : word_of (codes "00000065540") ≡ Some 65540
decimal_with_leading_zeros = refl
