-- What the directives say of their operands.
--
-- `.word`, `.half` and `.byte` take a list of items: numbers within the width, taken as signed or unsigned, and in
-- `.word` labels too. `.space` takes a number of zero bytes, `.align` the power of 2 of a multiple. `.text`, `.data`,
-- `.globl` and `.global` have no effect.
use Rattle.std.specs.Prelude.{◌≡◌, ℕ, Bool, true, false, ◌==◌, if◌then◌else◌, ◌||◌, not, List, [], ◌∷◌, length, map}
use Rattle.std.specs.Prelude.{Result, Ok, Err, ⊤}
use Rattle.std.specs.List.{list_all}
use Rattle.statements.specs.Spelling.{is_name}
use Rattle.byte_strings.specs.Fields.{fields}
use Rattle.byte_strings.specs.Blanks.{trimmed}
use Rattle.statements.specs.Numbers.{bits_in, constant_in}
use Rattle.statements.specs.Operands.{label_in}
use Rattle.statements.specs.Instructions.{Said, and_then}
use Rattle.statements.specs.declared.error.LineError.{LineError}
use Rattle.statements.specs.declared.error.LineError.TheVariants.{BadOperand, OutOfRange, Syntax, UnknownInstruction}
use Rattle.statements.specs.declared.error.LineError.TheVariants.{NoMemory}
use Rattle.statements.specs.declared.items.Width.{Width}
use Rattle.statements.specs.declared.items.Width.TheVariants.{Byte, Half, Word}
use Rattle.statements.specs.declared.items.Item.{Item}
use Rattle.statements.specs.declared.items.Item.TheVariants.{Label, Number}
use Rattle.statements.specs.declared.operands.Operands.{Operands}
use Rattle.statements.specs.declared.operands.Operands.TheVariants.{Zero, One}
use Rattle.statements.specs.declared.statement.Statement.TheVariants as say

-- the answer, or that no memory was left for it
abbrev pub OrNoMemory : {A : Type 0} → Result A LineError → Result A LineError → Type 0
OrNoMemory (Ok a) answer = answer ≡ Ok a
OrNoMemory (Err NoMemory) answer = ⊤
OrNoMemory (Err Syntax) answer = answer ≡ Err Syntax
OrNoMemory (Err UnknownInstruction) answer = answer ≡ Err UnknownInstruction
OrNoMemory (Err BadOperand) answer = answer ≡ Err BadOperand
OrNoMemory (Err OutOfRange) answer = answer ≡ Err OutOfRange

-- `.space`
abbrev pub space : Operands → Said
space (One number) = and_then (bits_in 0 16777216 number) (λ size. Ok (say.Space size))
space others = Err BadOperand

-- `.align`
abbrev pub align : Operands → Said
align (One number) = and_then (bits_in 0 12 number) (λ power. Ok (say.Align power))
align others = Err BadOperand

-- `.text` and `.data`
abbrev pub section : Operands → Said
section Zero = Ok say.Nothing
section others = Err BadOperand

-- `.globl` and `.global`
abbrev pub global : Operands → Said
global (One name) = and_then (label_in name) (λ label. Ok say.Nothing)
global others = Err BadOperand

-- ---- data

-- a number as an item
abbrev pub number_item : Result ℕ LineError → Result Item LineError
number_item (Ok number) = Ok (Number number)
number_item (Err error) = Err error

-- the item that a field writes
abbrev pub item_in : Width → List ℕ → Result Item LineError
item_in Byte text = number_item (bits_in 128 255 text)
item_in Half text = number_item (bits_in 32768 65535 text)
item_in Word text = if is_name text then Ok (Label text) else number_item (constant_in text)

-- whether something has not the form that it has to have
abbrev pub is_bad : {A : Type 0} → Result A LineError → Bool
is_bad (Ok a) = false
is_bad (Err BadOperand) = true
is_bad (Err OutOfRange) = false
is_bad (Err Syntax) = false
is_bad (Err UnknownInstruction) = false
is_bad (Err NoMemory) = false

-- whether a field has the form of an item
abbrev pub is_formed : Width → List ℕ → Bool
is_formed width text = not (is_bad (item_in width text))

-- whether each field of a text has
abbrev pub are_formed : Width → List ℕ → Bool
are_formed width text = list_all (is_formed width) (map trimmed (fields 44 text))

-- the first of a list before the others
abbrev pub before_others : {A : Type 0} → A → Result (List A) LineError → Result (List A) LineError
before_others a (Ok others) = Ok (a ∷ others)
before_others a (Err error) = Err error

-- all of them, or the first error
abbrev pub all_of : {A : Type 0} → List (Result A LineError) → Result (List A) LineError
all_of [] = Ok []
all_of (Ok a ∷ others) = before_others a (all_of others)
all_of (Err error ∷ others) = Err error

-- the items that fields write
abbrev pub items_of : Width → List (List ℕ) → Result (List Item) LineError
items_of width list = all_of (map (λ field. item_in width (trimmed field)) list)

-- the items that a text writes, divided at its commas
abbrev pub items_in : Width → List ℕ → Result (List Item) LineError
items_in width text = items_of width (fields 44 text)

-- `.word`, `.half` and `.byte`: one item or more. What has no such form is not looked at for its range.
abbrev pub stated : Width → List ℕ → Said
stated width text = if (length text == 0) || not (are_formed width text) then Err BadOperand
    else and_then (items_in width text) (λ items. Ok (say.Data width items))
