-- The bytes of an instruction, as text (DAP specification, `DisassembledInstruction.instructionBytes`).
--
-- There are four, in the order in which memory has them: the low byte of the word first. Each is two hexadecimal digits
-- in small letters, and single spaces stand between them.
use Rattle.std.specs.Prelude.{◌≡◌, ℕ, ◌/◌, ◌%◌, ◌^◌, List, [], ◌∷◌, Option, None, codes, refl}
use Rattle.serde_json.specs.Data.{string}
use Rattle.serde_json.specs.Find.{as_str}
use Rattle.protocol.specs.Properties.{◌>>=◌}
use Rattle.message_parts.specs.Addresses.{hex_digit, word_in}
use Rattle.message_parts.specs.Forms.{Form, is_word}

-- the text of the bytes of a word
abbrev pub bytes_text : ℕ → List ℕ
bytes_text n =
    hex_digit (n / 2 ^ 4 % 16) ∷ hex_digit (n % 16)
    ∷ 32 ∷ hex_digit (n / 2 ^ 12 % 16) ∷ hex_digit (n / 2 ^ 8 % 16)
    ∷ 32 ∷ hex_digit (n / 2 ^ 20 % 16) ∷ hex_digit (n / 2 ^ 16 % 16)
    ∷ 32 ∷ hex_digit (n / 2 ^ 28) ∷ hex_digit (n / 2 ^ 24 % 16) ∷ []

-- `addi a0, zero, 5` is the word 0x00500513
low_byte_first : bytes_text 5244179 ≡ codes "13 05 50 00"
low_byte_first = refl

-- what a text is taken for: the word of these digits, high byte first. What stands between them is not looked at
unfoldable pub word_of_bytes : List ℕ → Option ℕ
word_of_bytes (a ∷ b ∷ _ ∷ c ∷ d ∷ _ ∷ e ∷ f ∷ _ ∷ g ∷ h ∷ []) =
    word_in (48 ∷ 120 ∷ g ∷ h ∷ e ∷ f ∷ c ∷ d ∷ a ∷ b ∷ [])
word_of_bytes _ = None

-- the bytes of a word
abbrev pub instruction_bytes : Form ℕ
instruction_bytes = record {
  value = λ n. string (bytes_text n);
  found = λ d. as_str d >>= word_of_bytes;
  is_in = is_word;
  texts = λ n. [];
}
