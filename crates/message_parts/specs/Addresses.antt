-- Addresses and values of words, as texts.
--
-- The protocol writes a memory reference and the value of a variable as texts (DAP specification, `memoryReference`,
-- `Variable.value`). Here each is `0x` and the eight hexadecimal digits of a word, in small letters.
use Rattle.std.specs.Prelude.{◌≡◌, ℕ, ◌+◌, ◌/◌, ◌%◌, ◌^◌, nat_lt, if◌then◌else◌, List, [], ◌∷◌, Result, Ok, Err, codes}
use Rattle.std.specs.Prelude.{refl, Option, Some, None}
use Rattle.serde_json.specs.Data.{string}
use Rattle.serde_json.specs.Find.{as_str}
use Rattle.numerals.specs.Numerals.{magnitude}
use Rattle.numerals.specs.declared.NumeralError.{NumeralError}
use Rattle.protocol.specs.Properties.{◌>>=◌}
use Rattle.message_parts.specs.Forms.{Form, is_word}

-- a hexadecimal digit
abbrev pub hex_digit : ℕ → ℕ
hex_digit d = if nat_lt d 10 then d + 48 else d + 87

-- the text of a word
abbrev pub address_text : ℕ → List ℕ
address_text n =
    48 ∷ 120
    ∷ hex_digit (n / 2 ^ 28) ∷ hex_digit (n / 2 ^ 24 % 16) ∷ hex_digit (n / 2 ^ 20 % 16) ∷ hex_digit (n / 2 ^ 16 % 16)
    ∷ hex_digit (n / 2 ^ 12 % 16) ∷ hex_digit (n / 2 ^ 8 % 16) ∷ hex_digit (n / 2 ^ 4 % 16) ∷ hex_digit (n % 16) ∷ []

the_first_address : address_text 65536 ≡ codes "0x00010000"
the_first_address = refl

-- the word that digits write, if they write one
abbrev pub word_of : Result ℕ NumeralError → Option ℕ
word_of (Ok n) = Some n
word_of (Err error) = None

-- what a text is taken for
abbrev pub word_in : List ℕ → Option ℕ
word_in text = word_of (magnitude text)

-- an address, or the value of a word
abbrev pub address : Form ℕ
address = record {
  value = λ n. string (address_text n);
  found = λ d. as_str d >>= word_in;
  is_in = is_word;
  texts = λ n. [];
}
