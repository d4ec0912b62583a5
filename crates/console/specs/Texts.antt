-- The texts of pieces.
--
-- Addresses and words are `0x` and eight hexadecimal digits, in small letters. A value is such a word, the same as an unsigned
-- number, and what else it can be: a number below 0, or a character of ASCII that can be seen.
use Rattle.std.specs.Prelude.{ℕ, ◌/◌, ◌%◌, List, [], ◌∷◌, ◌++◌, length, Some, None, Bool, nat_eq, nat_le, nat_lt, bytes_eq, ◌&&◌, if◌then◌else◌, codes, decimal, string_bytes}
use Rattle.std.specs.Fmt.{signed_decimal}
use Rattle.facts.specs.declared.frame.FrameInfo.{FrameInfo}
use Rattle.facts.specs.declared.run.RunState.{RunState}
use Rattle.facts.specs.declared.run.RunState.TheVariants as run
use Rattle.rv32i.specs.Machine.{signed}
use Rattle.rv32i.specs.Names.{name_of}
use Rattle.rv32i.specs.Texts.{address_text as address_of, hex_digit}
use Rattle.console.specs.declared.piece.Form.TheVariants.{Line, Cell}
use Rattle.console.specs.declared.piece.Piece.{Piece}
use Rattle.console.specs.declared.piece.Piece.TheVariants as piece
use Rattle.console.specs.declared.piece.Tone.{Tone}
use Rattle.console.specs.declared.piece.Tone.TheVariants.{Fact}

-- words have their tone, and facts one of their own
abbrev pub tone_of : Piece → Tone
tone_of (piece.Words tone words) = tone
tone_of other = Fact

-- whether the machine runs
abbrev pub run_text : RunState → List ℕ
run_text run.Unknown = codes "unknown"
run_text run.Running = codes "running"
run_text run.Stopped = codes "stopped"
run_text (run.Ended None) = codes "ended"
run_text (run.Ended (Some code)) = codes "ended with exit code " ++ signed_decimal code

-- the name of a register, of which pc is the last
abbrev pub register_name : ℕ → List ℕ
register_name number = if nat_lt number 32 then name_of number else codes "pc"

abbrev pub address_text : ℕ → List ℕ
address_text word = address_of word

-- a byte, in two hexadecimal digits
abbrev pub byte_text : ℕ → List ℕ
byte_text value = hex_digit (value / 16) ∷ hex_digit (value % 16) ∷ []

-- a word by its bytes, of which the first is the low one
abbrev pub word_text : ℕ → ℕ → ℕ → ℕ → List ℕ
word_text first second third fourth = codes "0x" ++ byte_text fourth ++ byte_text third ++ byte_text second ++ byte_text first

-- a value is a character that can be seen
abbrev pub is_graphic : ℕ → Bool
is_graphic value = nat_le 33 value && nat_le value 126

-- what else a value is
abbrev pub rest_text : ℕ → List ℕ
rest_text value =
    if nat_lt value 2147483648 then (if is_graphic value then codes "  '" ++ (value ∷ []) ++ codes "'" else [])
    else codes "  " ++ signed_decimal (signed value)

-- a value
abbrev pub value_text : ℕ → List ℕ
value_text value = address_of value ++ codes "  " ++ decimal value ++ rest_text value

abbrev pub register_line : ℕ → ℕ → List ℕ
register_line number value = register_name number ++ codes " = " ++ value_text value

-- names have four bytes at most
abbrev pub gap : ℕ → List ℕ
gap length = if nat_eq length 2 then codes "   " else if nat_eq length 3 then codes "  " else codes " "

abbrev pub register_cell : ℕ → ℕ → List ℕ
register_cell number value = register_name number ++ gap (length (register_name number)) ++ address_of value

-- A frame that goes by no label has its address as its name, which is said once.
abbrev pub frame_text : FrameInfo → List ℕ
frame_text frame = if bytes_eq (address_of frame.address) frame.name then address_of frame.address
    else address_of frame.address ++ codes " " ++ frame.name

abbrev pub text_of : Piece → List ℕ
text_of (piece.Words tone words) = string_bytes words
text_of (piece.Run state) = run_text state
text_of (piece.Register Line number value) = register_line number value
text_of (piece.Register Cell number value) = register_cell number value
text_of (piece.Word address first second third fourth) = word_text first second third fourth
text_of (piece.Byte address value) = byte_text value
text_of (piece.Frame index frame) = frame_text frame
text_of (piece.Break list index found) = address_of found.address
text_of piece.Unknown = codes "?"
