-- Instructions by what they do: the formats of RV32I in which an assembler chooses among several (RISC-V Unprivileged
-- ISA 20191213, chapter 2), and an address in two parts.
use Rattle.std.specs.Prelude.{◌≡◌, ℕ, ◌+◌, ◌-◌, ◌*◌, ◌/◌, ◌%◌, ◌^◌, nat_lt, if◌then◌else◌, refl}
use Rattle.rv32i.specs.declared.instr.Instr.{Instr}
use Rattle.rv32i.specs.declared.instr.Instr.TheVariants as i
use Rattle.statements.specs.declared.operations.RegisterOperation.{RegisterOperation}
use Rattle.statements.specs.declared.operations.RegisterOperation.TheVariants as r
use Rattle.statements.specs.declared.operations.ShiftOperation.{ShiftOperation}
use Rattle.statements.specs.declared.operations.ShiftOperation.TheVariants as s
use Rattle.statements.specs.declared.operations.ImmediateOperation.{ImmediateOperation}
use Rattle.statements.specs.declared.operations.ImmediateOperation.TheVariants as m
use Rattle.statements.specs.declared.operations.StoreOperation.{StoreOperation}
use Rattle.statements.specs.declared.operations.StoreOperation.TheVariants as t
use Rattle.statements.specs.declared.operations.Condition.{Condition}
use Rattle.statements.specs.declared.operations.Condition.TheVariants as c

-- an instruction of three registers
abbrev pub register_instruction : RegisterOperation → ℕ → ℕ → ℕ → Instr
register_instruction r.Add rd rs1 rs2 = i.Add rd rs1 rs2
register_instruction r.Sub rd rs1 rs2 = i.Sub rd rs1 rs2
register_instruction r.Sll rd rs1 rs2 = i.Sll rd rs1 rs2
register_instruction r.Slt rd rs1 rs2 = i.Slt rd rs1 rs2
register_instruction r.Sltu rd rs1 rs2 = i.Sltu rd rs1 rs2
register_instruction r.Xor rd rs1 rs2 = i.Xor rd rs1 rs2
register_instruction r.Srl rd rs1 rs2 = i.Srl rd rs1 rs2
register_instruction r.Sra rd rs1 rs2 = i.Sra rd rs1 rs2
register_instruction r.Or rd rs1 rs2 = i.Or rd rs1 rs2
register_instruction r.And rd rs1 rs2 = i.And rd rs1 rs2

-- a shift by an immediate
abbrev pub shift_instruction : ShiftOperation → ℕ → ℕ → ℕ → Instr
shift_instruction s.Slli rd rs1 shamt = i.Slli rd rs1 shamt
shift_instruction s.Srli rd rs1 shamt = i.Srli rd rs1 shamt
shift_instruction s.Srai rd rs1 shamt = i.Srai rd rs1 shamt

-- an instruction with an immediate that is not stored
abbrev pub immediate_instruction : ImmediateOperation → ℕ → ℕ → ℕ → Instr
immediate_instruction m.Addi rd rs1 imm = i.Addi rd rs1 imm
immediate_instruction m.Slti rd rs1 imm = i.Slti rd rs1 imm
immediate_instruction m.Sltiu rd rs1 imm = i.Sltiu rd rs1 imm
immediate_instruction m.Xori rd rs1 imm = i.Xori rd rs1 imm
immediate_instruction m.Ori rd rs1 imm = i.Ori rd rs1 imm
immediate_instruction m.Andi rd rs1 imm = i.Andi rd rs1 imm
immediate_instruction m.Jalr rd rs1 imm = i.Jalr rd rs1 imm
immediate_instruction m.Lb rd rs1 imm = i.Lb rd rs1 imm
immediate_instruction m.Lh rd rs1 imm = i.Lh rd rs1 imm
immediate_instruction m.Lw rd rs1 imm = i.Lw rd rs1 imm
immediate_instruction m.Lbu rd rs1 imm = i.Lbu rd rs1 imm
immediate_instruction m.Lhu rd rs1 imm = i.Lhu rd rs1 imm

-- a store: the register of the address comes first
abbrev pub store_instruction : StoreOperation → ℕ → ℕ → ℕ → Instr
store_instruction t.Sb rs1 rs2 imm = i.Sb rs1 rs2 imm
store_instruction t.Sh rs1 rs2 imm = i.Sh rs1 rs2 imm
store_instruction t.Sw rs1 rs2 imm = i.Sw rs1 rs2 imm

-- a branch by its condition
abbrev pub branch_instruction : Condition → ℕ → ℕ → ℕ → Instr
branch_instruction c.Equal rs1 rs2 offset = i.Beq rs1 rs2 offset
branch_instruction c.NotEqual rs1 rs2 offset = i.Bne rs1 rs2 offset
branch_instruction c.LessThan rs1 rs2 offset = i.Blt rs1 rs2 offset
branch_instruction c.GreaterOrEqual rs1 rs2 offset = i.Bge rs1 rs2 offset
branch_instruction c.LessThanUnsigned rs1 rs2 offset = i.Bltu rs1 rs2 offset
branch_instruction c.GreaterOrEqualUnsigned rs1 rs2 offset = i.Bgeu rs1 rs2 offset

-- A number of 32 bits as the sum of a multiple of 4,096, which LUI or AUIPC can take, and of the low 12 bits,
-- sign-extended: where these are negative, the multiple is the next one.
abbrev pub upper_part : ℕ → ℕ
upper_part n = (n + 2048) % 2 ^ 32 / 4096 * 4096

-- the low 12 bits, sign-extended
abbrev pub lower_part : ℕ → ℕ
lower_part n = if nat_lt (n % 4096) 2048 then n % 4096 else n % 4096 + (2 ^ 32 - 4096)

upper_part_of : upper_part 0x800 ≡ 0x1000
upper_part_of = refl

lower_part_of : lower_part 0x800 ≡ 0xfffff800
lower_part_of = refl
