-- The registers of a hart, told: pc, and then each by its name, a line for each.
--
--   NAME 0xVALUE NUMBER
--
-- The value is eight hexadecimal digits, and the number is the same in decimal, as a signed number of 32 bits.
use Rattle.std.specs.Prelude.{ℕ, suc, List, [], ◌∷◌, ◌++◌, codes}
use Rattle.std.specs.Fmt.{signed_decimal}
use Rattle.rv32i.specs.Machine.{signed}
use Rattle.rv32i.specs.Names.{name_of}
use Rattle.rv32i.specs.Texts.{address_text}
use Rattle.rv32i.specs.declared.hart.Hart.{Hart}

-- a value, in hexadecimal and as a signed number
unfoldable pub value_text : ℕ → List ℕ
value_text value = codes " " ++ address_text value ++ codes " " ++ signed_decimal (signed value)

-- the line of a register
abbrev pub register_line : List ℕ → ℕ → List ℕ
register_line name value = name ++ value_text value ++ codes "\n"

-- the lines of the registers from this number on, with these values
abbrev pub lines_from : ℕ → List ℕ → List ℕ
lines_from number [] = []
lines_from number (value ∷ values) = register_line (name_of number) value ++ lines_from (suc number) values

abbrev pub registers_text : Hart → List ℕ
registers_text hart = register_line (codes "pc") hart.pc ++ lines_from 0 hart.x
