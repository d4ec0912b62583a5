-- Numbers in a text.
--
-- A number is an optional `-`, and then decimal digits, or `0x` and hexadecimal digits of either case. Its magnitude is
-- at most 4,294,967,295. An operand takes the numbers of a range, as 32 bits in two's complement.
use Rattle.std.specs.Prelude.{◌≡◌, ℕ, ◌-◌, ◌%◌, ◌^◌, Bool, true, false, nat_le, if◌then◌else◌, List, Option, Some, None}
use Rattle.std.specs.Prelude.{Result, Ok, Err, codes, refl}
use Rattle.numerals.specs.Numerals.{magnitude as numeral_of}
use Rattle.numerals.specs.declared.NumeralError.{NumeralError}
use Rattle.numerals.specs.declared.NumeralError.TheVariants.{Malformed, TooLarge}
use Rattle.statements.specs.Spelling.{stripped}
use Rattle.statements.specs.declared.error.LineError.{LineError}
use Rattle.statements.specs.declared.error.LineError.TheVariants.{BadOperand, OutOfRange}
use Rattle.statements.specs.declared.number.Number.{Number}

-- what is wrong with an operand that is no number
abbrev pub numeral_fault : NumeralError → LineError
numeral_fault Malformed = BadOperand
numeral_fault TooLarge = OutOfRange

-- the same number, or what is wrong with the operand
abbrev pub magnitude_by : Result ℕ NumeralError → Result ℕ LineError
magnitude_by (Ok n) = Ok n
magnitude_by (Err error) = Err (numeral_fault error)

-- the magnitude that a text writes
abbrev pub magnitude : List ℕ → Result ℕ LineError
magnitude text = magnitude_by (numeral_of text)

-- a magnitude with its sign
abbrev pub signed : Bool → Result ℕ LineError → Result Number LineError
signed negative (Ok n) = Ok (record { negative = negative; magnitude = n })
signed negative (Err error) = Err error

-- a number with a `-` or without
abbrev pub number_by : List ℕ → Option (List ℕ) → Result Number LineError
number_by text (Some digits) = signed true (magnitude digits)
number_by text None = signed false (magnitude text)

-- the number that a text writes
abbrev pub number_in : List ℕ → Result Number LineError
number_in text = number_by text (stripped (codes "-") text)

-- the 32 bits of a number
abbrev pub bits_of : Number → ℕ
bits_of n = if n.negative then (2 ^ 32 - n.magnitude) % 2 ^ 32 else n.magnitude

-- the bits of a number that is no more below 0 and no more above it than this
abbrev pub bits_within : ℕ → ℕ → Number → Result ℕ LineError
bits_within below above n =
    if nat_le n.magnitude (if n.negative then below else above) then Ok (bits_of n) else Err OutOfRange

-- the same of a number that may be wrong
abbrev pub bits_by : ℕ → ℕ → Result Number LineError → Result ℕ LineError
bits_by below above (Ok n) = bits_within below above n
bits_by below above (Err error) = Err error

-- the bits that a text writes, in such a range
abbrev pub bits_in : ℕ → ℕ → List ℕ → Result ℕ LineError
bits_in below above text = bits_by below above (number_in text)

-- those of a number that is at most as far from 0 as 32 bits reach, in either reading
abbrev pub constant_in : List ℕ → Result ℕ LineError
constant_in text = bits_in 2147483648 4294967295 text

bits_in_of : bits_in 2048 2047 (codes "-0x1") ≡ Ok 0xffffffff
bits_in_of = refl

too_many : bits_in 2048 2047 (codes "2048") ≡ Err OutOfRange
too_many = refl

no_number : bits_in 2048 2047 (codes "0x") ≡ Err BadOperand
no_number = refl
