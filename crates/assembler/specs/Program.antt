-- A text as a program: the lines that say something, each with its number.
--
-- A text is UTF-8 and has at most 1,048,576 bytes. Its lines end at line feeds, and a carriage return before a line
-- feed is dropped; the last line may lack its line feed, and then a carriage return at its end stays. After a line feed
-- at the end of the text there is no further line; an empty one would say nothing. Lines count from 1.
--
-- What is wrong with a text before any address is known is the first of these: it is too long (TooLarge, at line 0); it
-- is no UTF-8 (NotUtf8, at the line of the first byte that belongs to no character); a line is wrong as it stands, and
-- then the first such line is reported.
use Rattle.std.specs.Prelude.{ℕ, ◌+◌, Bool, ◌==◌, nat_lt, ◌&&◌, if◌then◌else◌, List, [], ◌∷◌, length, take}
use Rattle.std.specs.Prelude.{count_by, is_none, Option, Some, None, Result, Ok, Err}
use Rattle.std.specs.Str.{is_utf8}
use Rattle.std.specs.Str.Lines.{lines}
use Rattle.std.specs.Str.Lossy.{utf8_valid_len}
use Rattle.statements.specs.Reading.{read}
use Rattle.statements.specs.declared.error.LineError.{LineError}
use Rattle.statements.specs.declared.line.Line.{Line}
use Rattle.assembler.specs.declared.error.AsmError.{AsmError}
use Rattle.assembler.specs.declared.error.AsmErrorKind.TheVariants as k
use Rattle.assembler.specs.declared.program.Source.{Source}
use Rattle.assembler.specs.Errors.{at, of_line}

-- how many bytes a text may have
abbrev pub text_limit : ℕ
text_limit = 1048576

-- the line on which the byte at an index stands
abbrev pub line_at : List ℕ → ℕ → ℕ
line_at text index = count_by (λ b. b == 10) (take index text) + 1

-- a line with no label and no statement says nothing, and is left out
abbrev pub says_nothing : Line → Bool
says_nothing line = (length line.labels == 0) && is_none line.statement

-- a line with its number
abbrev pub source : ℕ → Line → Source
source number line = record { number = number; line = line }

-- a line before others, if it says something
abbrev pub kept : ℕ → Line → List Source → List Source
kept number line others = if says_nothing line then others else source number line ∷ others

-- a line before others, unless something is wrong with them
abbrev pub with_others : ℕ → Line → Result (List Source) AsmError → Result (List Source) AsmError
with_others number line (Ok others) = Ok (kept number line others)
with_others number line (Err error) = Err error

-- a line, if nothing is wrong with it, before others
abbrev pub line_then : ℕ → Result Line LineError → Result (List Source) AsmError → Result (List Source) AsmError
line_then number (Ok line) others = with_others number line others
line_then number (Err error) others = Err (of_line number error)

-- lines from a number on
abbrev pub read_lines : ℕ → List (List ℕ) → Result (List Source) AsmError
read_lines number [] = Ok []
read_lines number (line ∷ others) = line_then number (read line) (read_lines (number + 1) others)

-- What is wrong with a text as a whole, if anything. It is found before any memory is taken, so that
-- it is reported even where none is left.
unfoldable pub whole_error : List ℕ → Option AsmError
whole_error text = if nat_lt text_limit (length text) then Some (at 0 k.TooLarge)
    else if is_utf8 text then None
    else Some (at (line_at text (utf8_valid_len text)) k.NotUtf8)

-- the lines of a text, unless something is wrong with it as a whole
abbrev pub read_by : Option AsmError → List ℕ → Result (List Source) AsmError
read_by (Some error) text = Err error
read_by None text = read_lines 1 (lines text)

-- the lines of a text that say something, or the first error
unfoldable pub read_text : List ℕ → Result (List Source) AsmError
read_text text = read_by (whole_error text) text
