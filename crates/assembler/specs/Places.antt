-- Where everything stands: the address of each line, of each label, and what is wrong with a line at its address.
--
-- All lines stand in one sequence from 0x00010000 on. An instruction has 4 bytes; a pseudo-instruction that becomes two
-- has 8; an item of data has its width; `.space` has as many bytes as it says; `.align` the bytes up to the next
-- multiple of a power of 2. So a line's address is the sum of the sizes before it. A label's address is that of its
-- line, before the bytes of an `.align` on the same line.
--
-- What is wrong with a line at its address is the first of these: it defines a label that an earlier line, or an
-- earlier label of its own, defines (TwiceDefined); it has an instruction, or the label `_start`, at an address that is
-- no multiple of 4 (OutOfRange); it ends past the end of memory (TooLarge).
use Rattle.std.specs.Prelude.{◌≡◌, ℕ, ◌+◌, ◌-◌, ◌*◌, ◌%◌, ◌^◌, Bool, false, ◌==◌, nat_le, if◌then◌else◌, ◌&&◌, ◌||◌}
use Rattle.std.specs.Prelude.{not, List, [], ◌∷◌, ◌++◌, length, map, is_some, Option, Some, None, codes, refl}
use Rattle.std.specs.List.{flat_map, list_any}
use Rattle.std.specs.Str.{bytes_eq}
use Rattle.image.specs.Memory.{first_address}
use Rattle.image.specs.Lines.{Label, Row}
use Rattle.statements.specs.Spelling.{named}
use Rattle.statements.specs.declared.items.Width.{Width}
use Rattle.statements.specs.declared.items.Width.TheVariants.{Byte, Half, Word}
use Rattle.statements.specs.declared.line.Line.{Line}
use Rattle.statements.specs.declared.statement.Statement.{Statement}
use Rattle.statements.specs.declared.statement.Statement.TheVariants as say
use Rattle.assembler.specs.declared.error.AsmError.{AsmError}
use Rattle.assembler.specs.declared.error.AsmErrorKind.{AsmErrorKind}
use Rattle.assembler.specs.declared.error.AsmErrorKind.TheVariants as k
use Rattle.assembler.specs.declared.program.Source.{Source}
use Rattle.assembler.specs.Errors.{at, first_of}

-- the bytes of an item of data
abbrev pub bytes_in : Width → ℕ
bytes_in Byte = 1
bytes_in Half = 2
bytes_in Word = 4

-- how many bytes lie before the next multiple of a unit
abbrev pub padding : ℕ → ℕ → ℕ
padding unit address = (unit - address % unit) % unit

padding_to_4 : padding 4 65537 ≡ 3
padding_to_4 = refl

no_padding : padding 4 65536 ≡ 0
no_padding = refl

-- how many bytes a statement has at an address
abbrev pub size_of : Statement → ℕ → ℕ
size_of (say.One instruction) address = 4
size_of (say.Two first second) address = 8
size_of (say.Jump rd target) address = 4
size_of (say.Branch condition rs1 rs2 target) address = 4
size_of (say.Upper rd label) address = 4
size_of (say.Lower operation rd rs1 label) address = 4
size_of (say.StoreLower operation rs1 rs2 label) address = 4
size_of (say.LoadAddress rd label) address = 8
size_of (say.Call label) address = 8
size_of (say.Data width items) address = length items * bytes_in width
size_of (say.Space count) address = count
size_of (say.Align power) address = padding (2 ^ power) address
size_of say.Nothing address = 0

-- the same of a line, which may have no statement
abbrev pub size_at : Option Statement → ℕ → ℕ
size_at None address = 0
size_at (Some statement) address = size_of statement address

-- how many words of code a statement has
abbrev pub words_of : Statement → ℕ
words_of (say.One instruction) = 1
words_of (say.Two first second) = 2
words_of (say.Jump rd target) = 1
words_of (say.Branch condition rs1 rs2 target) = 1
words_of (say.Upper rd label) = 1
words_of (say.Lower operation rd rs1 label) = 1
words_of (say.StoreLower operation rs1 rs2 label) = 1
words_of (say.LoadAddress rd label) = 2
words_of (say.Call label) = 2
words_of (say.Data width items) = 0
words_of (say.Space count) = 0
words_of (say.Align power) = 0
words_of say.Nothing = 0

-- the same of a line
abbrev pub words_at : Option Statement → ℕ
words_at None = 0
words_at (Some statement) = words_of statement

-- a line with its address
pub record Place : Type 0 where
  pub address : ℕ
  pub source : Source

-- a line at an address
abbrev pub place : ℕ → Source → Place
place address source = record { address = address; source = source }

-- the address after a line
abbrev pub end_of_line : Source → ℕ → ℕ
end_of_line source address = address + size_at source.line.statement address

-- lines from an address on
abbrev pub places : ℕ → List Source → List Place
places address [] = []
places address (source ∷ others) = place address source ∷ places (end_of_line source address) others

-- the address after the last of them
abbrev pub end_of : ℕ → List Source → ℕ
end_of address [] = address
end_of address (source ∷ others) = end_of (end_of_line source address) others

-- a line's labels
abbrev pub labels_at : Place → List Label
labels_at place = map (λ name. (name, place.address)) place.source.line.labels

-- the labels of lines, in the order of the text
abbrev pub labels_in : List Place → List Label
labels_in list = flat_map labels_at list

-- a line's row in the line table, if it has code
abbrev pub row_of : ℕ → ℕ → ℕ → List Row
row_of number address words = if words == 0 then [] else (number, address, words) ∷ []

-- a line's row, at its address
abbrev pub rows_at : Place → List Row
rows_at place = row_of place.source.number place.address (words_at place.source.line.statement)

-- the rows of lines
abbrev pub rows_in : List Place → List Row
rows_in list = flat_map rows_at list

-- where the first code starts
abbrev pub first_start : List Row → Option ℕ
first_start [] = None
first_start (row ∷ rows) = Some row.1

-- an address, or the first one
abbrev pub or_first : Option ℕ → ℕ
or_first None = first_address
or_first (Some address) = address

-- the label of the start
abbrev pub start : List ℕ
start = codes "_start"

-- where a program starts: at the label `_start`; else at the first code; else at the first address
abbrev pub entry_of : List Label → List Row → ℕ
entry_of labels rows = or_first (first_of (named labels start) (first_start rows))

-- ---- what is wrong with a line at its address

-- whether one of some names has a label before, or stands before itself
abbrev pub defines_twice : ℕ → List Label → List (List ℕ) → Bool
defines_twice address before [] = false
defines_twice address before (name ∷ names) = is_some (named before name)
    || defines_twice address (before ++ (name, address) ∷ []) names

-- whether a line has to stand at a multiple of 4
abbrev pub is_aligned : Line → Bool
is_aligned line = not (words_at line.statement == 0) || list_any (λ name. bytes_eq name start) line.labels

-- what is wrong with a line, where these labels stand before it and memory ends at this limit
abbrev pub misplaced : ℕ → List Label → Place → Option AsmErrorKind
misplaced limit before place = if defines_twice place.address before place.source.line.labels then Some k.TwiceDefined
    else if is_aligned place.source.line && not (place.address % 4 == 0) then Some k.OutOfRange
    else if nat_le (end_of_line place.source place.address) limit then None
    else Some k.TooLarge

-- an error of a line, or the error of the lines after it
abbrev pub error_at : ℕ → Option AsmErrorKind → Option AsmError → Option AsmError
error_at line None later = later
error_at line (Some kind) later = Some (at line kind)

-- the first error of lines at their addresses
abbrev pub place_error : ℕ → List Label → List Place → Option AsmError
place_error limit before [] = None
place_error limit before (place ∷ others) =
    error_at place.source.number (misplaced limit before place) (place_error limit (before ++ labels_at place) others)
