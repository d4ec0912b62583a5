-- The statement that the disassembly of an instruction is.
--
-- An instruction at an address has a text (the page Texts of the crate rv32i). It is a line with no label and one
-- statement, and the statement is the instruction, but for two kinds. JAL and branches are written with the address
-- that they go to, so the statement is a jump or a branch to that address. A FENCE without a statement of its own
-- is written as its word, so the statement is data: one item of four bytes.
use Rattle.std.specs.Prelude.{◌≡◌, ℕ, if◌then◌else◌, [], ◌∷◌, Some, Result, Ok, refl}
use Rattle.rv32i.specs.Machine.{sum}
use Rattle.rv32i.specs.Texts.{is_plain_fence}
use Rattle.rv32i.specs.declared.instr.Instr.{Instr}
use Rattle.rv32i.specs.declared.instr.Instr.TheVariants as i
use Rattle.statements.specs.declared.error.LineError.{LineError}
use Rattle.statements.specs.declared.items.Item.TheVariants.{Number}
use Rattle.statements.specs.declared.items.Width.TheVariants.{Word}
use Rattle.statements.specs.declared.line.Line.{Line}
use Rattle.statements.specs.declared.operations.Condition.{Condition}
use Rattle.statements.specs.declared.operations.Condition.TheVariants as c
use Rattle.statements.specs.declared.statement.Statement.{Statement}
use Rattle.statements.specs.declared.statement.Statement.TheVariants as say
use Rattle.statements.specs.declared.statement.Target.TheVariants.{Address}

-- a branch at an address
abbrev pub branch_at : ℕ → Condition → (rs1 rs2 offset : ℕ) → Statement
branch_at pc condition rs1 rs2 offset = say.Branch condition rs1 rs2 (Address (sum pc offset))

-- a word of data
abbrev pub data_word : ℕ → Statement
data_word word = say.Data Word (Number word ∷ [])

-- the statement that the disassembly of an instruction is, at an address and with its word
abbrev pub statement_of : Instr → (pc word : ℕ) → Statement
statement_of (i.Jal rd offset) pc word = say.Jump rd (Address (sum pc offset))
statement_of (i.Beq rs1 rs2 offset) pc word = branch_at pc c.Equal rs1 rs2 offset
statement_of (i.Bne rs1 rs2 offset) pc word = branch_at pc c.NotEqual rs1 rs2 offset
statement_of (i.Blt rs1 rs2 offset) pc word = branch_at pc c.LessThan rs1 rs2 offset
statement_of (i.Bge rs1 rs2 offset) pc word = branch_at pc c.GreaterOrEqual rs1 rs2 offset
statement_of (i.Bltu rs1 rs2 offset) pc word = branch_at pc c.LessThanUnsigned rs1 rs2 offset
statement_of (i.Bgeu rs1 rs2 offset) pc word = branch_at pc c.GreaterOrEqualUnsigned rs1 rs2 offset
statement_of (i.Fence fm before after rd rs1) pc word = if is_plain_fence fm before after rd rs1
    then say.One (i.Fence fm before after rd rs1) else data_word word
statement_of other pc word = say.One other

-- `blt a0, a1, 0x00010000` at the second word of memory
to_the_first_word : statement_of (i.Blt 10 11 0xfffffffc) 65540 0 ≡ say.Branch c.LessThan 10 11 (Address 65536)
to_the_first_word = refl

-- `fence.tso`
fence_tso : statement_of (i.Fence 8 3 3 0 0) 65536 0x8330000f ≡ data_word 0x8330000f
fence_tso = refl

-- what a line is read as that has no label and this statement
abbrev pub stated_alone : Statement → Result Line LineError
stated_alone statement = Ok (record { labels = []; statement = Some statement })
