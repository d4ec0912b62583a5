-- A line of what was said: the number of an event, a mark, and words.
--
-- What was said is one line, whatever it is. So of words each control character is shown by its number, as `\x0a`, and of
-- words that are no UTF-8 also each byte that is not ASCII. All else is shown as it is.
use Rattle.std.specs.Prelude.{◌≡◌, ℕ, ◌+◌, ◌/◌, ◌%◌, ◌==◌, nat_le, nat_lt, Bool, true, not, ◌&&◌, ◌||◌, if◌then◌else◌, List, [], ◌∷◌, ◌++◌, codes, decimal, refl}
use Rattle.std.specs.List.{flat_map}
use Rattle.std.specs.Str.{is_utf8}

-- a hexadecimal digit, in lower case
abbrev pub digit_of : ℕ → ℕ
digit_of n = if nat_lt n 10 then 48 + n else 87 + n

-- the number of a byte
abbrev pub escaped : ℕ → List ℕ
escaped byte = 92 ∷ 120 ∷ digit_of (byte / 16) ∷ digit_of (byte % 16) ∷ []

-- whether a byte is shown as it is, by whether all are UTF-8
abbrev pub is_plain : Bool → ℕ → Bool
is_plain utf8 byte = nat_le 32 byte && not (byte == 127) && (utf8 || nat_lt byte 128)

abbrev pub shown_byte : Bool → ℕ → List ℕ
shown_byte utf8 byte = if is_plain utf8 byte then byte ∷ [] else escaped byte

-- words, shown on one line
unfoldable pub shown : List ℕ → List ℕ
shown words = flat_map (shown_byte (is_utf8 words)) words

-- a line
unfoldable pub line : ℕ → List ℕ → List ℕ → List ℕ
line number mark words = decimal number ++ mark ++ shown words ++ 10 ∷ []

-- ---- examples

a_line_feed : flat_map (shown_byte true) (codes "{\n}") ≡ codes "{\\x0a}"
a_line_feed = refl
