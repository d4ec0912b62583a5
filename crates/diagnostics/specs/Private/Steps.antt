-- What one step of a pass does. No text is checked against anything that stands here.
use Rattle.std.specs.Prelude.{ℕ, ◌+◌, ◌≤◌, Bool, true, if◌then◌else◌, ◌&&◌, is_some, List, [], ◌∷◌, ◌++◌, Option, Some, None, Result, Ok, Err, ⊤}
use Rattle.std.specs.Option.{unwrap_or}
use Rattle.image.specs.Lines.{Label}
use Rattle.image.specs.Memory.{first_address}
use Rattle.assembler.specs.Contents.{address_of, and_then, branch_offset, distance, jump_offset, target_of, value_of}
use Rattle.assembler.specs.Errors.{error_in, first_of}
use Rattle.assembler.specs.Places.{place}
use Rattle.assembler.specs.Program.{kept}
use Rattle.assembler.specs.declared.error.AsmError.{AsmError}
use Rattle.assembler.specs.declared.error.AsmErrorKind.{AsmErrorKind}
use Rattle.assembler.specs.declared.error.AsmErrorKind.TheVariants as k
use Rattle.statements.specs.Reading.{read}
use Rattle.statements.specs.declared.error.LineError.{LineError}
use Rattle.statements.specs.declared.items.Item.{Item}
use Rattle.statements.specs.declared.line.Line.{Line}
use Rattle.statements.specs.declared.statement.Statement.{Statement}
use Rattle.statements.specs.declared.statement.Statement.TheVariants as say
use Rattle.statements.specs.declared.statement.Target.{Target}
use Rattle.diagnostics.specs.Errors.{error_if, listed, next_address, Source, stands, value_in, with_labels}

-- ---- reading

-- a line that can be read, if it says something
abbrev pub said : ℕ → Result Line LineError → List Source
said number (Ok line) = kept number line []
said number (Err error) = []

-- the lines from a number on that can be read and say something
abbrev pub said_lines : ℕ → List (List ℕ) → List Source
said_lines number [] = []
said_lines number (line ∷ others) = said number (read line) ++ said_lines (number + 1) others

-- whether all lines can be read
abbrev pub all_read : List (List ℕ) → Bool
all_read [] = true
all_read (line ∷ others) = is_some (value_in (read line)) && all_read others

-- ---- places

-- an address, if one is known, lies in memory or at its end
abbrev pub LiesWithin : ℕ → Option ℕ → Type 0
LiesWithin limit None = ⊤
LiesWithin limit (Some address) = (first_address ≤ address) × (address ≤ limit)

-- what is wrong with the address of a line, where one is known
abbrev pub wrong_address : ℕ → Option ℕ → Source → Option AsmErrorKind
wrong_address limit None source = None
wrong_address limit (Some address) source = error_in (stands limit (place address source))

-- what is wrong with a line that defines a label again, or does not
abbrev pub misplaced_so : ℕ → Bool → Option ℕ → Source → Option AsmErrorKind
misplaced_so limit again address source = if again then Some k.TwiceDefined else wrong_address limit address source

-- the labels after lines
abbrev pub labels_after : ℕ → List Label → Option ℕ → List Source → List Label
labels_after limit before address [] = before
labels_after limit before address (source ∷ others) =
    labels_after limit (with_labels before (unwrap_or address 0) source.line.labels) (next_address limit address source) others

-- ---- contents

-- what is wrong with the target of a jump at an address
abbrev pub wrong_jump : List Label → ℕ → Target → Option AsmErrorKind
wrong_jump labels address target = error_in (and_then (target_of labels target) (λ to. jump_offset (distance to address)))

-- the same of a branch
abbrev pub wrong_branch : List Label → ℕ → Target → Option AsmErrorKind
wrong_branch labels address target = error_in (and_then (target_of labels target) (λ to. branch_offset (distance to address)))

-- the same of a name
abbrev pub wrong_name : List Label → List ℕ → Option AsmErrorKind
wrong_name labels name = error_in (address_of labels name)

-- the same of items of data
abbrev pub wrong_items : List Label → List Item → Option AsmErrorKind
wrong_items labels [] = None
wrong_items labels (item ∷ items) = first_of (error_in (value_of labels item)) (wrong_items labels items)

-- what is wrong with a statement at an address
abbrev pub wrong_statement : List Label → ℕ → Statement → Option AsmErrorKind
wrong_statement labels address (say.One instruction) = None
wrong_statement labels address (say.Two first second) = None
wrong_statement labels address (say.Jump rd target) = wrong_jump labels address target
wrong_statement labels address (say.Branch condition rs1 rs2 target) = wrong_branch labels address target
wrong_statement labels address (say.Upper rd label) = wrong_name labels label
wrong_statement labels address (say.Lower operation rd rs1 label) = wrong_name labels label
wrong_statement labels address (say.StoreLower operation rs1 rs2 label) = wrong_name labels label
wrong_statement labels address (say.LoadAddress rd label) = wrong_name labels label
wrong_statement labels address (say.Call label) = wrong_name labels label
wrong_statement labels address (say.Data width items) = wrong_items labels items
wrong_statement labels address (say.Space count) = None
wrong_statement labels address (say.Align power) = None
wrong_statement labels address say.Nothing = None

-- the same of a line, which may have no statement
abbrev pub wrong_content : List Label → ℕ → Option Statement → Option AsmErrorKind
wrong_content labels address None = None
wrong_content labels address (Some statement) = wrong_statement labels address statement

-- the same, where the address is known
abbrev pub wrong_at : List Label → Option ℕ → Source → Option AsmErrorKind
wrong_at labels None source = None
wrong_at labels (Some address) source = wrong_content labels address source.line.statement

-- the errors of the statements of lines; the first is at this address
abbrev pub content_steps : ℕ → List Label → Option ℕ → List Source → List AsmError
content_steps limit labels address [] = []
content_steps limit labels address (source ∷ others) = listed (error_if source.number (wrong_at labels address source))
    ++ content_steps limit labels (next_address limit address source) others
