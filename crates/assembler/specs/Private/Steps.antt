-- What one step of a pass does. Nothing that an image is checked against stands here.
-- That no memory was left may be reported instead of any answer.
use Rattle.std.specs.Prelude.{◌≡◌, ℕ, ◌≤◌, Bool, true, false, nat_le, if◌then◌else◌, List, [], ◌∷◌, ◌++◌, map, is_some}
use Rattle.std.specs.Prelude.{Option, Some, None, Result, Ok, Err, ⊤}
use Rattle.image.specs.Lines.{Label, Row}
use Rattle.image.specs.Memory.{first_address}
use Rattle.statements.specs.Spelling.{named}
use Rattle.statements.specs.declared.error.LineError.{LineError}
use Rattle.statements.specs.declared.line.Line.{Line}
use Rattle.assembler.specs.declared.error.AsmError.{AsmError}
use Rattle.assembler.specs.declared.error.AsmErrorKind.{AsmErrorKind}
use Rattle.assembler.specs.declared.error.AsmErrorKind.TheVariants as k
use Rattle.assembler.specs.declared.program.Source.{Source}
use Rattle.assembler.specs.Contents.{Contained, Content, IsContent, IsPart}
use Rattle.assembler.specs.Errors.{at, no_memory}
use Rattle.assembler.specs.Places.{defines_twice, end_of, labels_in, place_error, places, rows_in}
use Rattle.assembler.specs.Program.{line_then}

-- ---- lines

-- what one line makes
abbrev pub said : ℕ → Result Line LineError → Result (List Source) AsmError
said number line = line_then number line (Ok [])

-- lines before what others make
abbrev pub after : List Source → Result (List Source) AsmError → Result (List Source) AsmError
after list (Ok more) = Ok (list ++ more)
after list (Err error) = Err error

-- ---- what is reported of a line

-- What is reported of a line: what is wrong with it, or that no memory was left.
abbrev pub reported_kind : AsmErrorKind → Option AsmErrorKind → Type 0
reported_kind k.NoMemory found = ⊤
reported_kind k.NotUtf8 found = found ≡ Some k.NotUtf8
reported_kind k.Syntax found = found ≡ Some k.Syntax
reported_kind k.UnknownInstruction found = found ≡ Some k.UnknownInstruction
reported_kind k.BadOperand found = found ≡ Some k.BadOperand
reported_kind k.OutOfRange found = found ≡ Some k.OutOfRange
reported_kind k.TwiceDefined found = found ≡ Some k.TwiceDefined
reported_kind k.Undefined found = found ≡ Some k.Undefined
reported_kind k.TooLarge found = found ≡ Some k.TooLarge

-- the error at a line; that no memory was left is reported at line 0
abbrev pub reported_at : ℕ → AsmErrorKind → AsmError
reported_at line k.NoMemory = no_memory
reported_at line k.NotUtf8 = at line k.NotUtf8
reported_at line k.Syntax = at line k.Syntax
reported_at line k.UnknownInstruction = at line k.UnknownInstruction
reported_at line k.BadOperand = at line k.BadOperand
reported_at line k.OutOfRange = at line k.OutOfRange
reported_at line k.TwiceDefined = at line k.TwiceDefined
reported_at line k.Undefined = at line k.Undefined
reported_at line k.TooLarge = at line k.TooLarge

-- ---- places

-- an address, if it is no more than a limit
abbrev pub up_to : ℕ → ℕ → Option ℕ
up_to limit address = if nat_le address limit then Some address else None

-- what is reported where a label is defined twice, or no memory was left
abbrev pub ReportsTwice : AsmErrorKind → Bool → Type 0
ReportsTwice k.TwiceDefined twice = twice ≡ true
ReportsTwice k.NoMemory twice = ⊤
ReportsTwice k.NotUtf8 twice = ⊥
ReportsTwice k.Syntax twice = ⊥
ReportsTwice k.UnknownInstruction twice = ⊥
ReportsTwice k.BadOperand twice = ⊥
ReportsTwice k.OutOfRange twice = ⊥
ReportsTwice k.Undefined twice = ⊥
ReportsTwice k.TooLarge twice = ⊥

-- the same of one name: whether it is defined is looked up before memory is taken
abbrev pub ReportsOne : AsmErrorKind → Bool → Type 0
ReportsOne k.TwiceDefined twice = twice ≡ true
ReportsOne k.NoMemory twice = twice ≡ false
ReportsOne k.NotUtf8 twice = ⊥
ReportsOne k.Syntax twice = ⊥
ReportsOne k.UnknownInstruction twice = ⊥
ReportsOne k.BadOperand twice = ⊥
ReportsOne k.OutOfRange twice = ⊥
ReportsOne k.Undefined twice = ⊥
ReportsOne k.TooLarge twice = ⊥

-- what is added of one name, or why nothing is
abbrev pub AddsOne : Result (Unit {0}) AsmErrorKind → ℕ → List Label → List ℕ → List Label → Type 0
AddsOne (Ok done) address before name after = (is_some (named before name) ≡ false)
    × (after ≡ before ++ (name, address) ∷ [])
AddsOne (Err kind) address before name after = ReportsOne kind (is_some (named before name))

-- the same of names
abbrev pub Adds : Result (Unit {0}) AsmErrorKind → ℕ → List Label → List (List ℕ) → List Label → Type 0
Adds (Ok done) address before names after = (defines_twice address before names ≡ false)
    × (after ≡ before ++ map (λ name. (name, address)) names)
Adds (Err kind) address before names after = ReportsTwice kind (defines_twice address before names)

-- where everything stands, in a program where no line is wrong at its address
pub record IsLayout (limit : ℕ) (program : List Source) (labels : List Label) (rows : List Row) (end : ℕ) : Type 0 where
  pub fits : place_error limit [] (places first_address program) ≡ None
  pub labels_are : labels ≡ labels_in (places first_address program)
  pub rows_are : rows ≡ rows_in (places first_address program)
  pub end_is : end ≡ end_of first_address program
  pub within : end ≤ limit

-- ---- contents

-- what is wrong with it, or that no memory was left
abbrev pub ReportsKind : AsmErrorKind → Contained → Type 0
ReportsKind k.NoMemory contained = ⊤
ReportsKind k.NotUtf8 contained = contained ≡ Err k.NotUtf8
ReportsKind k.Syntax contained = contained ≡ Err k.Syntax
ReportsKind k.UnknownInstruction contained = contained ≡ Err k.UnknownInstruction
ReportsKind k.BadOperand contained = contained ≡ Err k.BadOperand
ReportsKind k.OutOfRange contained = contained ≡ Err k.OutOfRange
ReportsKind k.TwiceDefined contained = contained ≡ Err k.TwiceDefined
ReportsKind k.Undefined contained = contained ≡ Err k.Undefined
ReportsKind k.TooLarge contained = contained ≡ Err k.TooLarge

-- bytes with a part after them
abbrev pub Appends : Content → List ℕ → List ℕ → Type 0
Appends content before after = (part : List ℕ) × IsContent content part × (after ≡ before ++ part)

-- bytes with a part after them, or what is reported
abbrev pub Writes : Result (Unit {0}) AsmErrorKind → Contained → List ℕ → List ℕ → Type 0
Writes (Ok done) contained before after = (part : List ℕ) × IsPart contained part × (after ≡ before ++ part)
Writes (Err kind) contained before after = ReportsKind kind contained
