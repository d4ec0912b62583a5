-- A line: what it says.
--
-- A `#` begins a comment. A line is any number of labels, each a name before a colon, and then at most one statement: a
-- mnemonic and operands, with blanks between. A mnemonic is a name; at least one blank parts it from its operands.
--
-- What is wrong with a line is the first of these that applies: another form than this (Syntax); a name that is no
-- mnemonic and no directive's (UnknownInstruction); operands of another number or form than the mnemonic takes
-- (BadOperand); a number outside the range of its operand (OutOfRange).
use Rattle.std.specs.Prelude.{ℕ, ◌==◌, if◌then◌else◌, ◌&&◌, List, [], ◌∷◌, length, take, drop, position, Option, Some}
use Rattle.std.specs.Prelude.{None, Result, Ok, Err}
use Rattle.std.specs.List.{join_with_byte}
use Rattle.statements.specs.Spelling.{is_name}
use Rattle.byte_strings.specs.Fields.{fields, parted}
use Rattle.byte_strings.specs.Blanks.{is_blank, trimmed, without_leading_blanks}
use Rattle.statements.specs.Operands.{are_operands, operands_in}
use Rattle.statements.specs.Mnemonics.{mnemonic_of}
use Rattle.statements.specs.Instructions.{Said, against_zero, add_upper, branch, call, fence, fixed, immediate, jump}
use Rattle.statements.specs.Instructions.{jump_and_link, jump_and_link_register, jump_register, load, load_address}
use Rattle.statements.specs.Instructions.{load_immediate, load_upper, of_register, registers, shift, store, swapped}
use Rattle.statements.specs.Instructions.{unary, with_zero, zero_against}
use Rattle.statements.specs.Directives.{align, global, section, space, stated}
use Rattle.statements.specs.declared.error.LineError.{LineError}
use Rattle.statements.specs.declared.error.LineError.TheVariants.{Syntax, UnknownInstruction}
use Rattle.statements.specs.declared.line.Line.{Line}
use Rattle.statements.specs.declared.operands.Operands.{Operands}
use Rattle.statements.specs.declared.statement.Statement.{Statement}
use Rattle.statements.specs.declared.mnemonics.Mnemonic.{Mnemonic}
use Rattle.statements.specs.declared.mnemonics.Mnemonic.TheVariants.{Registers, Immediate, Shift, Load, Store, Branch}
use Rattle.statements.specs.declared.mnemonics.Mnemonic.TheVariants.{Swapped, AgainstZero, ZeroAgainst, OfRegister}
use Rattle.statements.specs.declared.mnemonics.Mnemonic.TheVariants.{WithZero, OfImmediate, LoadUpper, AddUpper}
use Rattle.statements.specs.declared.mnemonics.Mnemonic.TheVariants.{JumpAndLink, JumpAndLinkRegister, Jump}
use Rattle.statements.specs.declared.mnemonics.Mnemonic.TheVariants.{JumpRegister, LoadImmediate, LoadAddress, Call}
use Rattle.statements.specs.declared.mnemonics.Mnemonic.TheVariants.{Fixed, Fence, Data, Space, Align, Section, Global}

-- what stands before a comment
abbrev pub content_by : List ℕ → Option (List ℕ × List ℕ) → List ℕ
content_by line None = line
content_by line (Some (content, comment)) = content

-- a line up to its `#`
abbrev pub without_comment : List ℕ → List ℕ
without_comment line = content_by line (parted 35 line)

-- the label that a field before a colon is, if it is a name
abbrev pub label_before : List ℕ → Option (List ℕ)
label_before field = if is_name (without_leading_blanks field) then Some (without_leading_blanks field) else None

-- the labels while there are any
abbrev pub labels_with : Option (List ℕ) → List (List ℕ) → List (List ℕ)
labels_with None others = []
labels_with (Some label) others = label ∷ others

-- the labels, of a text that is divided at its colons: a field before a colon is a label as long as it is a name
abbrev pub labels_of : List (List ℕ) → List (List ℕ)
labels_of [] = []
labels_of (field ∷ []) = []
labels_of (field ∷ next ∷ fields) = labels_with (label_before field) (labels_of (next ∷ fields))

-- what comes after the labels, or the whole where there is none
abbrev pub rest_with : Option (List ℕ) → List ℕ → List ℕ → List ℕ
rest_with None whole after = whole
rest_with (Some label) whole after = after

-- what comes after the labels
abbrev pub rest_of : List (List ℕ) → List ℕ
rest_of [] = []
rest_of (field ∷ []) = field
rest_of (field ∷ next ∷ fields) =
    rest_with (label_before field) (join_with_byte 58 (field ∷ next ∷ fields)) (rest_of (next ∷ fields))

-- what a mnemonic says of its operands
abbrev pub meaning : Mnemonic → Operands → List ℕ → Said
meaning (Registers op) operands text = registers op operands
meaning (Immediate op) operands text = immediate op operands
meaning (Shift op) operands text = shift op operands
meaning (Load op) operands text = load op operands
meaning (Store op) operands text = store op operands
meaning (Branch condition) operands text = branch condition operands
meaning (Swapped condition) operands text = swapped condition operands
meaning (AgainstZero condition) operands text = against_zero condition operands
meaning (ZeroAgainst condition) operands text = zero_against condition operands
meaning (OfRegister op) operands text = of_register op operands
meaning (WithZero op) operands text = with_zero op operands
meaning (OfImmediate op) operands text = unary op operands
meaning LoadUpper operands text = load_upper operands
meaning AddUpper operands text = add_upper operands
meaning JumpAndLink operands text = jump_and_link operands
meaning JumpAndLinkRegister operands text = jump_and_link_register operands
meaning Jump operands text = jump operands
meaning JumpRegister operands text = jump_register operands
meaning LoadImmediate operands text = load_immediate operands
meaning LoadAddress operands text = load_address operands
meaning Call operands text = call operands
meaning (Fixed op) operands text = fixed op operands
meaning Fence operands text = fence operands
meaning (Data width) operands text = stated width text
meaning Space operands text = space operands
meaning Align operands text = align operands
meaning Section operands text = section operands
meaning Global operands text = global operands

-- what a name says of operands, if it is a mnemonic or a directive's
abbrev pub said_by : Option Mnemonic → List ℕ → Said
said_by None text = Err UnknownInstruction
said_by (Some mnemonic) text = meaning mnemonic (operands_in text) text

-- what a name and a text of operands say
abbrev pub said : List ℕ → List ℕ → Said
said mnemonic text = if is_name mnemonic && are_operands text then said_by (mnemonic_of mnemonic) text else Err Syntax

-- a statement
abbrev pub stating : Said → Result (Option Statement) LineError
stating (Ok statement) = Ok (Some statement)
stating (Err error) = Err error

-- the same of a text that is parted at this index
abbrev pub said_at : List ℕ → Option ℕ → Said
said_at text None = said text []
said_at text (Some i) = said (take i text) (trimmed (drop i text))

-- the statement that a text states, which has no blanks round it: its mnemonic ends at its first blank
abbrev pub statement_in : List ℕ → Result (Option Statement) LineError
statement_in text = if length text == 0 then Ok None else stating (said_at text (position is_blank text))

-- a line of these labels and this statement
abbrev pub line_of : List (List ℕ) → Result (Option Statement) LineError → Result Line LineError
line_of labels (Ok statement) = Ok (record { labels = labels; statement = statement })
line_of labels (Err error) = Err error

-- what a line without its comment says
abbrev pub read_content : List ℕ → Result Line LineError
read_content text = line_of (labels_of (fields 58 text)) (statement_in (trimmed (rest_of (fields 58 text))))

-- what a line says
unfoldable pub read : List ℕ → Result Line LineError
read line = read_content (without_comment line)
