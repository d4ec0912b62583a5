-- The errors of a text for a memory of 1 MiB, each with its line: all those of the first of the assembler's passes that finds
-- one (the pages Program, Places and Contents of the crate assembler).
--
-- A text that is too long or no UTF-8 has that error alone. Else each pass has its list, in the order of the lines:
--
--   reading: each line that cannot be read
--   places: each line that defines a label again, and the first line whose address is wrong. It has an instruction, or the
--     label `_start`, where no multiple of 4 is, or it ends past the end of memory. The addresses of all lines after it follow
--     from its own, so they are not looked at
--   contents: each line that names a label that no line defines, or whose target is too far from it
--
-- A line has one error at most, the one that the assembler finds in it.
use Rattle.std.specs.Prelude.{◌≡◌, ℕ, zero, suc, ◌+◌, ◌%◌, ◌==◌, nat_le, if◌then◌else◌, ◌&&◌, is_some, not, List, [], ◌∷◌, ◌++◌, map}
use Rattle.std.specs.Prelude.{false, true, length, Option, Some, None, Result, Ok, Err, slice_get}
use Rattle.std.specs.List.{All, Contains}
use Rattle.std.specs.Option.{unwrap_or}
use Rattle.std.specs.Str.{is_utf8}
use Rattle.std.specs.Str.Lines.{lines}
use Rattle.image.specs.Lines.{Label}
use Rattle.image.specs.Memory.{first_address}
use Rattle.assembler.specs.Contents.{content_at, wrong_in}
use Rattle.assembler.specs.Errors.{at, of_line}
use Rattle.assembler.specs.Placed.{error_of, memory_end, placed}
use Rattle.assembler.specs.Places.{defines_twice, end_of, end_of_line, is_aligned, labels_in, misplaced, Place, place, place_error}
use Rattle.assembler.specs.Program.{read_lines, read_text, source, whole_error}
use Rattle.assembler.specs.declared.error.AsmError.{AsmError}
use Rattle.assembler.specs.declared.error.AsmErrorKind.{AsmErrorKind}
use Rattle.assembler.specs.declared.error.AsmErrorKind.TheVariants as k
use Rattle.statements.specs.Reading.{read}
use Rattle.statements.specs.Spelling.{named}
use Rattle.statements.specs.declared.error.LineError.{LineError}
use Rattle.statements.specs.declared.line.Line.{Line}

-- the type of what a function of two values gives
abbrev pub ResultOf : {A B C : Type 0} → (A → B → C) → Type 0
ResultOf {A} {B} {C} f = C

-- a line that was read, with its number
abbrev pub Source : Type 0
Source = ResultOf source

-- an error, if there is one
abbrev pub listed : Option AsmError → List AsmError
listed None = []
listed (Some error) = error ∷ []

-- an error of this kind at a line, if it has one
abbrev pub error_if : ℕ → Option AsmErrorKind → Option AsmError
error_if number None = None
error_if number (Some kind) = Some (at number kind)

-- ---- reading

-- the error of a line that cannot be read
abbrev pub unread : ℕ → Result Line LineError → Option AsmError
unread number (Ok line) = None
unread number (Err error) = Some (of_line number error)

-- lines from a number on that cannot be read
abbrev pub reading_errors : ℕ → List (List ℕ) → List AsmError
reading_errors number [] = []
reading_errors number (line ∷ others) = listed (unread number (read line)) ++ reading_errors (number + 1) others

-- ---- places

-- a label, unless there is one of its name before
abbrev pub with_label : List Label → ℕ → List ℕ → List Label
with_label labels address name = if is_some (named labels name) then labels else labels ++ (name, address) ∷ []

-- the labels of a line, after others
abbrev pub with_labels : List Label → ℕ → List (List ℕ) → List Label
with_labels labels address [] = labels
with_labels labels address (name ∷ names) = with_labels (with_label labels address name) address names

-- the address after a line, or what is wrong with its own
abbrev pub stands : ℕ → Place → Result ℕ AsmErrorKind
stands limit place = if is_aligned place.source.line && not (place.address % 4 == 0) then Err k.OutOfRange
    else if nat_le (end_of_line place.source place.address) limit then Ok (end_of_line place.source place.address)
    else Err k.TooLarge

-- the value of a result, if it has one
abbrev pub value_in : {A E : Type 0} → Result A E → Option A
value_in (Ok a) = Some a
value_in (Err error) = None

-- the address after a line, as long as none is wrong
abbrev pub next_address : ℕ → Option ℕ → Source → Option ℕ
next_address limit None source = None
next_address limit (Some address) source = value_in (stands limit (place address source))

-- what is wrong with a line at its address; after a wrong one, that it defines a label again
abbrev pub misplaced_at : ℕ → List Label → Option ℕ → Source → Option AsmErrorKind
misplaced_at limit before None source = if defines_twice 0 before source.line.labels then Some k.TwiceDefined else None
misplaced_at limit before (Some address) source = misplaced limit before (place address source)

-- the errors of lines, where these labels stand before them and the first is at this address
abbrev pub place_errors : ℕ → List Label → Option ℕ → List Source → List AsmError
place_errors limit before address [] = []
place_errors limit before address (source ∷ others) =
    listed (error_if source.number (misplaced_at limit before address source))
    ++ place_errors limit (with_labels before (unwrap_or address 0) source.line.labels) (next_address limit address source) others

-- ---- contents

-- the lines at their addresses whose statement has a target that is not defined, or too far
abbrev pub content_errors : List Label → List Place → List AsmError
content_errors labels [] = []
content_errors labels (place ∷ others) =
    listed (error_if place.source.number (wrong_in (content_at labels place.address place.source.line.statement)))
    ++ content_errors labels others

-- ---- the first pass with an error

-- the errors of a pass, or those of the next
abbrev pub or_next : List AsmError → List AsmError → List AsmError
or_next [] next = next
or_next (error ∷ errors) next = error ∷ errors

-- where memory ends
abbrev pub memory_limit : ℕ
memory_limit = memory_end 1048576

-- the errors of lines that were read
abbrev pub program_errors : List Source → List AsmError
program_errors program = or_next (place_errors memory_limit [] (Some first_address) program)
    (content_errors (labels_in (placed program)) (placed program))

-- the errors of lines, where these say something, if all can be read
abbrev pub errors_read : List (List ℕ) → Option (List Source) → List AsmError
errors_read texts None = reading_errors 1 texts
errors_read texts (Some program) = program_errors program

-- the errors of lines
abbrev pub line_errors : List (List ℕ) → List AsmError
line_errors texts = errors_read texts (value_in (read_lines 1 texts))

-- the errors of a text, where this is wrong with it as a whole, if anything
abbrev pub errors_by : Option AsmError → List ℕ → List AsmError
errors_by (Some error) text = error ∷ []
errors_by None text = line_errors (lines text)

-- the errors of a text
unfoldable pub errors_of : List ℕ → List AsmError
errors_of text = errors_by (whole_error text) text

-- ---- each with its line

-- an error, with its line, where the text has it
abbrev pub Located : Type 0
Located = AsmError × Option (List ℕ)

-- the line of a number, counted from 1
abbrev pub numbered : List (List ℕ) → ℕ → Option (List ℕ)
numbered texts zero = None
numbered texts (suc n) = slice_get texts n

-- the lines of a text that is UTF-8
abbrev pub lines_of : List ℕ → List (List ℕ)
lines_of text = if is_utf8 text then lines text else []

-- the line of a text that has this number, counted from 1, where the text is UTF-8
abbrev pub line_in : List ℕ → ℕ → Option (List ℕ)
line_in text number = numbered (lines_of text) number

-- errors with their lines, among these
abbrev pub located_among : List (List ℕ) → List AsmError → List Located
located_among texts errors = map (λ error. (error, numbered texts error.line)) errors

-- the errors of a text, each with its line
abbrev pub errors_in : List ℕ → List Located
errors_in text = located_among (lines_of text) (errors_of text)

-- ---- what holds of them

-- the first of some errors
abbrev pub first_in : List AsmError → Option AsmError
first_in [] = None
first_in (error ∷ errors) = Some error

-- The first is the one that the assembler reports: a text has errors where that finds one, and else none.
abbrev pub FirstIsReported : Type 0
FirstIsReported = (text : List ℕ) → first_in (errors_of text) ≡ error_of text 1048576

-- Each line in error is told: one that cannot be read, of a text that is not wrong as a whole; where all can be read, one that
-- defines a label which it or a line before it defines, and the first whose address is wrong, unless it does so too; and where no
-- line is wrong at its place, one whose statement is.
pub record EachIsTold (text : List ℕ) : Type 0 where
  pub reading : (before others : List (List ℕ)) (line : List ℕ) (error : LineError) → whole_error text ≡ None
      → lines text ≡ before ++ line ∷ others → read line ≡ Err error → Contains (errors_of text) (of_line (length before + 1) error)
  pub labels : (before others : List Source) (source : Source) → read_text text ≡ Ok (before ++ source ∷ others)
      → defines_twice 0 (labels_in (placed before)) source.line.labels ≡ true
      → Contains (errors_of text) (at source.number k.TwiceDefined)
  pub addresses : (before others : List Source) (source : Source) (kind : AsmErrorKind)
      → read_text text ≡ Ok (before ++ source ∷ others)
      → All (λ earlier. is_some (value_in (stands memory_limit earlier)) ≡ true) (placed before)
      → defines_twice 0 (labels_in (placed before)) source.line.labels ≡ false
      → stands memory_limit (place (end_of first_address before) source) ≡ Err kind
      → Contains (errors_of text) (at source.number kind)
  pub contents : (program : List Source) (before others : List Place) (place : Place) (kind : AsmErrorKind)
      → read_text text ≡ Ok program → place_error memory_limit [] (placed program) ≡ None
      → placed program ≡ before ++ place ∷ others
      → wrong_in (content_at (labels_in (placed program)) place.address place.source.line.statement) ≡ Some kind
      → Contains (errors_of text) (at place.source.number kind)
