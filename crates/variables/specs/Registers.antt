-- The registers as variables (DAP specification, `Variable`, `SetVariableRequest`).
--
-- The list has x0 to x31 under their names, and then the program counter as `pc`. What can be set are x1 to x31, under
-- the same names: neither `fp` nor `x8` is a variable, though both name s0 elsewhere. x0 is always 0, and the program
-- continues where it stands.
use Rattle.std.specs.Prelude.{◌≡◌, ℕ, ◌==◌, if◌then◌else◌, List, [], ◌∷◌, ◌++◌, map, slice_index, slice_set}
use Rattle.std.specs.Prelude.{Option, Some, None, Result, Ok, Err, bytes_eq, codes, refl}
use Rattle.std.specs.List.{range_with_len}
use Rattle.message_parts.specs.declared.variables.Variable.{Variable}
use Rattle.protocol.specs.declared.refusal.Refusal.{Refusal}
use Rattle.protocol.specs.declared.refusal.Refusal.TheVariants.{UnknownName, NotWritable, BadValue}
use Rattle.rv32i.specs.Names.{name_of, number_named}
use Rattle.rv32i.specs.declared.hart.Hart.{Hart}
use Rattle.variables.specs.Values.{value_of}

-- the numbers of the registers
abbrev pub numbers : List ℕ
numbers = range_with_len 0 32

-- a register, by its number
abbrev pub register : Hart → ℕ → Variable
register hart number = record { name = name_of number; value = slice_index hart.x number }

-- the program counter
abbrev pub counter : Hart → Variable
counter hart = record { name = codes "pc"; value = hart.pc }

-- the list
unfoldable pub registers : Hart → List Variable
registers hart = map (register hart) numbers ++ counter hart ∷ []

-- ---- setting one

abbrev pub unless_zero : Option ℕ → Result ℕ Refusal
unless_zero None = Err UnknownName
unless_zero (Some number) = if number == 0 then Err NotWritable else Ok number

-- the number of the register that can be set under a name, or why there is none
abbrev pub name_answer : List ℕ → Result ℕ Refusal
name_answer name = if bytes_eq name (codes "pc") then Err NotWritable else unless_zero (number_named name)

abbrev pub value_answer : Result ℕ Refusal → Option ℕ → Result ℕ Refusal
value_answer (Err refusal) value = Err refusal
value_answer (Ok number) None = Err BadValue
value_answer (Ok number) (Some value) = Ok value

-- what is answered: the value that the register has now, or the refusal
abbrev pub set_answer : List ℕ → List ℕ → Result ℕ Refusal
set_answer name text = value_answer (name_answer name) (value_of text)

abbrev pub with_value : Result ℕ Refusal → Option ℕ → List ℕ → List ℕ
with_value (Err refusal) value x = x
with_value (Ok number) None x = x
with_value (Ok number) (Some value) x = slice_set x number value

-- the registers after it
abbrev pub registers_after : List ℕ → List ℕ → List ℕ → List ℕ
registers_after name text x = with_value (name_answer name) (value_of text) x

sets_a0 : set_answer (codes "a0") (codes "-1") ≡ Ok 0xffffffff
unfolding number_named
sets_a0 = refl

sets_no_zero : set_answer (codes "zero") (codes "z") ≡ Err NotWritable
unfolding number_named
sets_no_zero = refl

sets_no_fp : set_answer (codes "fp") (codes "1") ≡ Err UnknownName
unfolding number_named
sets_no_fp = refl

no_word : set_answer (codes "a0") (codes "z") ≡ Err BadValue
unfolding number_named
no_word = refl
