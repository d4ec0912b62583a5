-- The mnemonics of instructions and pseudo-instructions (RISC-V Unprivileged ISA 20191213, chapter 2; chapter 25,
-- tables 25.2 and 25.3), and the names of directives, which are read alike.
--
-- Each stands once, beside the form of the operands that it takes.
use Rattle.std.specs.Prelude.{ℕ, List, [], ◌∷◌, Option, Some, None, codes}
use Rattle.statements.specs.Spelling.{named}
use Rattle.statements.specs.declared.operations.RegisterOperation.TheVariants as r
use Rattle.statements.specs.declared.operations.ShiftOperation.TheVariants as s
use Rattle.statements.specs.declared.operations.ImmediateOperation.TheVariants as m
use Rattle.statements.specs.declared.operations.StoreOperation.TheVariants as t
use Rattle.statements.specs.declared.operations.Condition.TheVariants as c
use Rattle.statements.specs.declared.items.Width.TheVariants as w
use Rattle.statements.specs.declared.mnemonics.Unary.TheVariants as u
use Rattle.statements.specs.declared.mnemonics.Fixed.TheVariants as f
use Rattle.statements.specs.declared.mnemonics.Mnemonic.{Mnemonic}
use Rattle.statements.specs.declared.mnemonics.Mnemonic.TheVariants.{Registers, Immediate, Shift, Load, Store, Branch}
use Rattle.statements.specs.declared.mnemonics.Mnemonic.TheVariants.{Swapped, AgainstZero, ZeroAgainst, OfRegister}
use Rattle.statements.specs.declared.mnemonics.Mnemonic.TheVariants.{WithZero, OfImmediate, LoadUpper, AddUpper}
use Rattle.statements.specs.declared.mnemonics.Mnemonic.TheVariants.{JumpAndLink, JumpAndLinkRegister, Jump}
use Rattle.statements.specs.declared.mnemonics.Mnemonic.TheVariants.{JumpRegister, LoadImmediate, LoadAddress, Call}
use Rattle.statements.specs.declared.mnemonics.Mnemonic.TheVariants.{Fixed, Fence, Data, Space, Align, Section, Global}

-- instructions with an immediate (section 2.4)
abbrev pub immediate_mnemonics : List (List ℕ × Mnemonic)
immediate_mnemonics = (codes "addi", Immediate m.Addi) ∷ (codes "slti", Immediate m.Slti) ∷
    (codes "sltiu", Immediate m.Sltiu) ∷ (codes "xori", Immediate m.Xori) ∷ (codes "ori", Immediate m.Ori) ∷
    (codes "andi", Immediate m.Andi) ∷ (codes "slli", Shift s.Slli) ∷ (codes "srli", Shift s.Srli) ∷
    (codes "srai", Shift s.Srai) ∷ []

-- loads and stores (section 2.6)
abbrev pub access_mnemonics : List (List ℕ × Mnemonic)
access_mnemonics = (codes "lw", Load m.Lw) ∷ (codes "lb", Load m.Lb) ∷ (codes "lh", Load m.Lh) ∷
    (codes "lbu", Load m.Lbu) ∷ (codes "lhu", Load m.Lhu) ∷ (codes "sw", Store t.Sw) ∷ (codes "sb", Store t.Sb) ∷
    (codes "sh", Store t.Sh) ∷ []

-- branches (section 2.5); `bgt` is `blt` with its registers swapped, and so on
abbrev pub branch_mnemonics : List (List ℕ × Mnemonic)
branch_mnemonics = (codes "beq", Branch c.Equal) ∷ (codes "bne", Branch c.NotEqual) ∷ (codes "blt", Branch c.LessThan) ∷
    (codes "bge", Branch c.GreaterOrEqual) ∷ (codes "bltu", Branch c.LessThanUnsigned) ∷
    (codes "bgeu", Branch c.GreaterOrEqualUnsigned) ∷ (codes "bgt", Swapped c.LessThan) ∷
    (codes "ble", Swapped c.GreaterOrEqual) ∷ (codes "bgtu", Swapped c.LessThanUnsigned) ∷
    (codes "bleu", Swapped c.GreaterOrEqualUnsigned) ∷ []

-- branches against x0
abbrev pub zero_branch_mnemonics : List (List ℕ × Mnemonic)
zero_branch_mnemonics = (codes "beqz", AgainstZero c.Equal) ∷ (codes "bnez", AgainstZero c.NotEqual) ∷
    (codes "bgez", AgainstZero c.GreaterOrEqual) ∷ (codes "bltz", AgainstZero c.LessThan) ∷
    (codes "blez", ZeroAgainst c.GreaterOrEqual) ∷ (codes "bgtz", ZeroAgainst c.LessThan) ∷ []

-- instructions of three registers (section 2.4)
abbrev pub register_mnemonics : List (List ℕ × Mnemonic)
register_mnemonics = (codes "add", Registers r.Add) ∷ (codes "sub", Registers r.Sub) ∷ (codes "sll", Registers r.Sll) ∷
    (codes "slt", Registers r.Slt) ∷ (codes "sltu", Registers r.Sltu) ∷ (codes "xor", Registers r.Xor) ∷
    (codes "srl", Registers r.Srl) ∷ (codes "sra", Registers r.Sra) ∷ (codes "or", Registers r.Or) ∷
    (codes "and", Registers r.And) ∷ []

-- instructions of two registers
abbrev pub copy_mnemonics : List (List ℕ × Mnemonic)
copy_mnemonics = (codes "mv", OfImmediate u.Move) ∷ (codes "not", OfImmediate u.Not) ∷
    (codes "seqz", OfImmediate u.IsZero) ∷ (codes "neg", OfRegister r.Sub) ∷ (codes "snez", OfRegister r.Sltu) ∷
    (codes "sgtz", OfRegister r.Slt) ∷ (codes "sltz", WithZero r.Slt) ∷ []

-- constants, addresses and jumps
abbrev pub jump_mnemonics : List (List ℕ × Mnemonic)
jump_mnemonics = (codes "li", LoadImmediate) ∷ (codes "la", LoadAddress) ∷ (codes "call", Call) ∷ (codes "j", Jump) ∷
    (codes "jal", JumpAndLink) ∷ (codes "jalr", JumpAndLinkRegister) ∷ (codes "jr", JumpRegister) ∷
    (codes "lui", LoadUpper) ∷ (codes "auipc", AddUpper) ∷ []

-- mnemonics that may stand alone
abbrev pub plain_mnemonics : List (List ℕ × Mnemonic)
plain_mnemonics = (codes "ret", Fixed f.Return) ∷ (codes "nop", Fixed f.Nop) ∷ (codes "ecall", Fixed f.Ecall) ∷
    (codes "ebreak", Fixed f.Ebreak) ∷ (codes "fence", Fence) ∷ []

-- directives
abbrev pub directives : List (List ℕ × Mnemonic)
directives = (codes ".word", Data w.Word) ∷ (codes ".half", Data w.Half) ∷ (codes ".byte", Data w.Byte) ∷
    (codes ".space", Space) ∷ (codes ".align", Align) ∷ (codes ".text", Section) ∷ (codes ".data", Section) ∷
    (codes ".globl", Global) ∷ (codes ".global", Global) ∷ []

-- the first, if any, and else the other
abbrev pub or_else : Option Mnemonic → Option Mnemonic → Option Mnemonic
or_else None other = other
or_else (Some mnemonic) other = Some mnemonic

-- what stands beside a text in the first table that has it
abbrev pub first_named : List (List (List ℕ × Mnemonic)) → List ℕ → Option Mnemonic
first_named [] text = None
first_named (table ∷ tables) text = or_else (named table text) (first_named tables text)

-- what a name means, if it is a mnemonic or a directive's name
abbrev pub mnemonic_of : List ℕ → Option Mnemonic
mnemonic_of text = first_named (immediate_mnemonics ∷ access_mnemonics ∷ branch_mnemonics ∷ zero_branch_mnemonics ∷
    register_mnemonics ∷ copy_mnemonics ∷ jump_mnemonics ∷ plain_mnemonics ∷ directives ∷ []) text
