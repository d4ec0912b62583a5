-- Operands: what comes after a mnemonic or a directive's name, divided by commas.
--
-- An operand is any characters but commas, not all blank. The mnemonic says which form it has to have: a register, a
-- number, a label, `%hi(label)`, `%lo(label)`, a register in brackets after an offset, or a set of accesses. Blanks may
-- stand round the brackets.
use Rattle.std.specs.Prelude.{◌≡◌, ℕ, ◌-◌, Bool, ◌==◌, if◌then◌else◌, not, List, [], ◌∷◌, length, take, drop, map}
use Rattle.std.specs.Prelude.{position, Option, Some, None, Result, Ok, Err, codes, refl}
use Rattle.std.specs.List.{list_all}
use Rattle.std.specs.Str.{bytes_eq}
use Rattle.rv32i.specs.Names.{names, numbered_names}
use Rattle.statements.specs.Spelling.{is_name, named, stripped}
use Rattle.byte_strings.specs.Fields.{fields, parted}
use Rattle.byte_strings.specs.Blanks.{trimmed, without_leading_blanks}
use Rattle.statements.specs.Numbers.{bits_in}
use Rattle.statements.specs.declared.error.LineError.{LineError}
use Rattle.statements.specs.declared.error.LineError.TheVariants.{BadOperand}
use Rattle.statements.specs.declared.operands.Operands.{Operands}
use Rattle.statements.specs.declared.operands.Operands.TheVariants.{Zero, One, Two, Three, More}
use Rattle.statements.specs.declared.forms.Low.{Low}
use Rattle.statements.specs.declared.forms.Low.TheVariants.{Bits, Part}
use Rattle.statements.specs.declared.forms.Access.{Access}
use Rattle.statements.specs.declared.statement.Target.{Target}
use Rattle.statements.specs.declared.statement.Target.TheVariants.{Label, Address}

-- ---- how many there are

-- what stands between commas
abbrev pub each_operand : List ℕ → List (List ℕ)
each_operand text = map trimmed (fields 44 text)

-- the operands in what comes after a mnemonic
abbrev pub operand_list : List ℕ → List (List ℕ)
operand_list text = if length text == 0 then [] else each_operand text

-- whether an operand is not blank
abbrev pub is_operand : List ℕ → Bool
is_operand operand = not (length operand == 0)

-- whether none of them is blank
abbrev pub are_operands : List ℕ → Bool
are_operands text = list_all is_operand (operand_list text)

-- the operands by their number
abbrev pub counted : List (List ℕ) → Operands
counted [] = Zero
counted (a ∷ []) = One a
counted (a ∷ b ∷ []) = Two a b
counted (a ∷ b ∷ c ∷ []) = Three a b c
counted (a ∷ b ∷ c ∷ d ∷ others) = More

-- the operands that a text writes
abbrev pub operands_in : List ℕ → Operands
operands_in text = counted (operand_list text)

-- ---- what one may be

-- the index of a name in a list
abbrev pub index_of : List ℕ → List (List ℕ) → Option ℕ
index_of name list = position (λ other. bytes_eq name other) list

-- the first of two that is found
abbrev pub first_found : Option ℕ → Option ℕ → Option ℕ
first_found (Some r) other = Some r
first_found None other = other

-- the register that a name means (RISC-V Unprivileged ISA 20191213, chapter 25, table 25.1)
abbrev pub register_of : List ℕ → Option ℕ
register_of name = first_found (index_of name names)
    (first_found (index_of name numbered_names) (if bytes_eq name (codes "fp") then Some 8 else None))

-- what there is, or a bad operand
abbrev pub or_bad : {A : Type 0} → Option A → Result A LineError
or_bad None = Err BadOperand
or_bad (Some a) = Ok a

-- the register that an operand names
abbrev pub register_in : List ℕ → Result ℕ LineError
register_in text = or_bad (register_of text)

-- a label
abbrev pub label_in : List ℕ → Result (List ℕ) LineError
label_in text = if is_name text then Ok text else Err BadOperand

-- a text without its suffix, if it has that suffix
abbrev pub stripped_suffix : List ℕ → List ℕ → Option (List ℕ)
stripped_suffix suffix text = if bytes_eq (drop (length text - length suffix) text) suffix
    then Some (take (length text - length suffix) text) else None

-- without the blanks round it
abbrev pub closed_by : Option (List ℕ) → Option (List ℕ)
closed_by None = None
closed_by (Some inner) = Some (trimmed inner)

-- what comes before a closing bracket at the end, without the blanks round it
abbrev pub closed : List ℕ → Option (List ℕ)
closed text = closed_by (stripped_suffix (codes ")") text)

-- the same after an opening bracket
abbrev pub bracketed_by : Option (List ℕ) → Option (List ℕ)
bracketed_by None = None
bracketed_by (Some text) = closed text

-- what stands in brackets, without the blanks round it
abbrev pub bracketed : List ℕ → Option (List ℕ)
bracketed text = bracketed_by (stripped (codes "(") text)

-- a label, where there are brackets
abbrev pub part_by : Option (List ℕ) → Result (List ℕ) LineError
part_by None = Err BadOperand
part_by (Some label) = label_in label

-- the label in brackets after `%lo` or `%hi`
abbrev pub part_in : List ℕ → Result (List ℕ) LineError
part_in text = part_by (bracketed (without_leading_blanks text))

-- a number of 12 bits
abbrev pub immediate_in : List ℕ → Result ℕ LineError
immediate_in text = bits_in 2048 2047 text

-- an immediate that is a number
abbrev pub bits_low : Result ℕ LineError → Result Low LineError
bits_low (Ok bits) = Ok (Bits bits)
bits_low (Err error) = Err error

-- an immediate that is the lower bits of a label's address
abbrev pub part_low : Result (List ℕ) LineError → Result Low LineError
part_low (Ok label) = Ok (Part label)
part_low (Err error) = Err error

-- after `%lo` comes a label, and else it is a number
abbrev pub low_by : List ℕ → Option (List ℕ) → Result Low LineError
low_by text None = bits_low (immediate_in text)
low_by text (Some after) = part_low (part_in after)

-- an immediate of 12 bits: a number, or the lower bits of a label's address
abbrev pub low_in : List ℕ → Result Low LineError
low_in text = low_by text (stripped (codes "%lo") text)

-- ---- an address: a register in brackets after an offset

-- an offset may lack
abbrev pub offset_in : List ℕ → Result Low LineError
offset_in text = if length text == 0 then Ok (Bits 0) else bits_low (immediate_in text)

-- the register first: what has no such form is not looked at for its range
abbrev pub access_with : Result Low LineError → Result ℕ LineError → Result Access LineError
access_with offset (Err error) = Err error
access_with (Err error) (Ok base) = Err error
access_with (Ok offset) (Ok base) = Ok (record { offset = offset; base = base })

-- the register in the brackets
abbrev pub base_by : Option (List ℕ) → Result ℕ LineError
base_by None = Err BadOperand
base_by (Some name) = register_in name

-- `imm(rs1)`
abbrev pub plain_access : Option (List ℕ × List ℕ) → Result Access LineError
plain_access None = Err BadOperand
plain_access (Some (offset, after)) = access_with (offset_in (trimmed offset)) (base_by (closed after))

-- the label and what comes after its bracket
abbrev pub part_access_by : Option (List ℕ × List ℕ) → Result Access LineError
part_access_by None = Err BadOperand
part_access_by (Some (label, after)) =
    access_with (part_low (label_in (trimmed label))) (base_by (bracketed (without_leading_blanks after)))

-- `%lo(label)(rs1)`
abbrev pub part_access : Option (List ℕ) → Result Access LineError
part_access None = Err BadOperand
part_access (Some text) = part_access_by (parted 41 text)

-- after `%lo` comes a label, and else an offset may come first
abbrev pub access_by : List ℕ → Option (List ℕ) → Result Access LineError
access_by text None = plain_access (parted 40 text)
access_by text (Some after) = part_access (stripped (codes "(") (without_leading_blanks after))

-- the address that an operand writes
abbrev pub access_in : List ℕ → Result Access LineError
access_in text = access_by text (stripped (codes "%lo") text)

-- ---- where a jump goes: a label, or an address

-- an address as a target
abbrev pub address_target : Result ℕ LineError → Result Target LineError
address_target (Ok address) = Ok (Address address)
address_target (Err error) = Err error

-- the target that an operand writes
abbrev pub target_in : List ℕ → Result Target LineError
target_in text = if is_name text then Ok (Label text) else address_target (bits_in 0 4294967295 text)

-- ---- a set of accesses: device input, device output, reads and writes, each by its letter, in this order
abbrev pub sets : List (List ℕ × ℕ)
sets = (codes "w", 1) ∷ (codes "r", 2) ∷ (codes "rw", 3) ∷ (codes "o", 4) ∷ (codes "ow", 5) ∷ (codes "or", 6) ∷
    (codes "orw", 7) ∷ (codes "i", 8) ∷ (codes "iw", 9) ∷ (codes "ir", 10) ∷ (codes "irw", 11) ∷ (codes "io", 12) ∷
    (codes "iow", 13) ∷ (codes "ior", 14) ∷ (codes "iorw", 15) ∷ []

-- the set that an operand writes
abbrev pub set_in : List ℕ → Result ℕ LineError
set_in text = or_bad (named sets text)

operands_of : operands_in (codes "a0 , 8 ( sp )") ≡ Two (codes "a0") (codes "8 ( sp )")
operands_of = refl

access_of : access_in (codes "%lo ( x ) ( sp )") ≡ Ok (record { offset = Part (codes "x"); base = 2 })
access_of = refl

access_without : access_in (codes "(a0)") ≡ Ok (record { offset = Bits 0; base = 10 })
access_without = refl

set_of : set_in (codes "iorw") ≡ Ok 15
set_of = refl
