-- Addresses as requests name them (DAP specification, `memoryReference`, `instructionReference`, `offset`).
--
-- A reference is a text that writes a word. What is added to it is a signed number. The sum does not wrap: where it is
-- no number of 32 bits, it is no address.
use Rattle.std.specs.Prelude.{◌≡◌, ℕ, ℤ, pos, negsuc, neg_ℤ, ◌+ℤ◌, nat_lt, ◌^◌, if◌then◌else◌, List}
use Rattle.std.specs.Prelude.{Option, Some, None, codes, refl}
use Rattle.numerals.specs.Words.{word_of}

-- a number that is an address
abbrev pub address_of : ℤ → Option ℕ
address_of (pos n) = if nat_lt n (2 ^ 32) then Some n else None
address_of (negsuc n) = None

-- the address that a number and what is added to it come to
abbrev pub offset_by : ℤ → Option ℕ → Option ℕ
offset_by offset None = None
offset_by offset (Some n) = address_of (pos n +ℤ offset)

-- the address that a reference and what is added to it come to
abbrev pub address_in : List ℕ → ℤ → Option ℕ
address_in text offset = offset_by offset (word_of text)

hexadecimal : address_in (codes "0x0001000C") (pos 4) ≡ Some 65552
hexadecimal = refl

decimal_with_leading_zeros : address_in (codes "00000065540") (pos 0) ≡ Some 65540
decimal_with_leading_zeros = refl

nine_digits : address_in (codes "0x000010000") (pos 0) ≡ None
nine_digits = refl

sums_do_not_wrap : address_in (codes "0xffffffff") (pos 1) ≡ None
sums_do_not_wrap = refl

below_0 : address_in (codes "3") (neg_ℤ (pos 4)) ≡ None
below_0 = refl
