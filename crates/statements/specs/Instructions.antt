-- What the mnemonics of instructions and pseudo-instructions say of their operands (RISC-V Unprivileged ISA 20191213,
-- chapter 2; chapter 25, tables 25.2 and 25.3). A pseudo-instruction is what its expansion is.
use Rattle.std.specs.Prelude.{ℕ, ◌+◌, ◌*◌, ◌%◌, ◌^◌, ◌==◌, nat_lt, if◌then◌else◌, List, Option, Some, None, Result, Ok}
use Rattle.std.specs.Prelude.{Err, codes}
use Rattle.rv32i.specs.declared.instr.Instr.{Instr}
use Rattle.rv32i.specs.declared.instr.Instr.TheVariants as i
use Rattle.statements.specs.Spelling.{stripped}
use Rattle.statements.specs.Numbers.{bits_in, constant_in}
use Rattle.statements.specs.Operands.{access_in, label_in, low_in, part_in, register_in, set_in, target_in}
use Rattle.statements.specs.Operations.{immediate_instruction, lower_part, register_instruction, shift_instruction}
use Rattle.statements.specs.Operations.{store_instruction, upper_part}
use Rattle.statements.specs.declared.error.LineError.{LineError}
use Rattle.statements.specs.declared.error.LineError.TheVariants.{BadOperand}
use Rattle.statements.specs.declared.operands.Operands.{Operands}
use Rattle.statements.specs.declared.operands.Operands.TheVariants.{Zero, One, Two, Three}
use Rattle.statements.specs.declared.forms.Low.{Low}
use Rattle.statements.specs.declared.forms.Low.TheVariants.{Bits, Part}
use Rattle.statements.specs.declared.operations.RegisterOperation.{RegisterOperation}
use Rattle.statements.specs.declared.operations.ShiftOperation.{ShiftOperation}
use Rattle.statements.specs.declared.operations.ImmediateOperation.{ImmediateOperation}
use Rattle.statements.specs.declared.operations.ImmediateOperation.TheVariants.{Jalr}
use Rattle.statements.specs.declared.operations.StoreOperation.{StoreOperation}
use Rattle.statements.specs.declared.operations.Condition.{Condition}
use Rattle.statements.specs.declared.statement.Statement.{Statement}
use Rattle.statements.specs.declared.statement.Statement.TheVariants as say
use Rattle.statements.specs.declared.mnemonics.Unary.{Unary}
use Rattle.statements.specs.declared.mnemonics.Unary.TheVariants.{Move, Not, IsZero}
use Rattle.statements.specs.declared.mnemonics.Fixed.{Fixed}
use Rattle.statements.specs.declared.mnemonics.Fixed.TheVariants.{Nop, Return, Ecall, Ebreak}

-- what a line says, or what is wrong with it
abbrev pub Said : Type 0
Said = Result Statement LineError

-- a part, and then what stands on it, unless something is wrong with it
abbrev pub and_then : {A B : Type 0} → Result A LineError → (A → Result B LineError) → Result B LineError
and_then (Ok a) next = next a
and_then (Err error) next = Err error

-- one instruction
abbrev pub one : Instr → Said
one instruction = Ok (say.One instruction)

-- ---- instructions of registers

-- `op rd, rs1, rs2`
abbrev pub registers : RegisterOperation → Operands → Said
registers op (Three rd rs1 rs2) =
    and_then (register_in rd) (λ rd. and_then (register_in rs1) (λ rs1.
    and_then (register_in rs2) (λ rs2. one (register_instruction op rd rs1 rs2))))
registers op others = Err BadOperand

-- neg, snez, sgtz: the first register is x0
abbrev pub of_register : RegisterOperation → Operands → Said
of_register op (Two rd rs2) =
    and_then (register_in rd) (λ rd. and_then (register_in rs2) (λ rs2. one (register_instruction op rd 0 rs2)))
of_register op others = Err BadOperand

-- sltz: the second is
abbrev pub with_zero : RegisterOperation → Operands → Said
with_zero op (Two rd rs1) =
    and_then (register_in rd) (λ rd. and_then (register_in rs1) (λ rs1. one (register_instruction op rd rs1 0)))
with_zero op others = Err BadOperand

-- ---- instructions with an immediate

-- an instruction with a number or the lower bits of a label's address
abbrev pub lower : ImmediateOperation → ℕ → ℕ → Low → Statement
lower op rd rs1 (Bits imm) = say.One (immediate_instruction op rd rs1 imm)
lower op rd rs1 (Part label) = say.Lower op rd rs1 label

-- `op rd, rs1, imm`
abbrev pub immediate : ImmediateOperation → Operands → Said
immediate op (Three rd rs1 imm) =
    and_then (register_in rd) (λ rd. and_then (register_in rs1) (λ rs1.
    and_then (low_in imm) (λ imm. Ok (lower op rd rs1 imm))))
immediate op others = Err BadOperand

-- a shift amount
abbrev pub amount_in : List ℕ → Result ℕ LineError
amount_in text = bits_in 0 31 text

-- `op rd, rs1, shamt`
abbrev pub shift : ShiftOperation → Operands → Said
shift op (Three rd rs1 shamt) =
    and_then (register_in rd) (λ rd. and_then (register_in rs1) (λ rs1.
    and_then (amount_in shamt) (λ shamt. one (shift_instruction op rd rs1 shamt))))
shift op others = Err BadOperand

-- `op rd, imm(rs1)`
abbrev pub load : ImmediateOperation → Operands → Said
load op (Two rd access) =
    and_then (register_in rd) (λ rd. and_then (access_in access) (λ access. Ok (lower op rd access.base access.offset)))
load op others = Err BadOperand

-- a store with a number or the lower bits of a label's address
abbrev pub store_lower : StoreOperation → ℕ → ℕ → Low → Statement
store_lower op rs1 rs2 (Bits imm) = say.One (store_instruction op rs1 rs2 imm)
store_lower op rs1 rs2 (Part label) = say.StoreLower op rs1 rs2 label

-- `op rs2, imm(rs1)`
abbrev pub store : StoreOperation → Operands → Said
store op (Two rs2 access) =
    and_then (register_in rs2) (λ rs2.
    and_then (access_in access) (λ access. Ok (store_lower op access.base rs2 access.offset)))
store op others = Err BadOperand

-- mv d, s is addi d, s, 0; not d, s is xori d, s, -1; seqz d, s is sltiu d, s, 1
abbrev pub unary_instruction : Unary → ℕ → ℕ → Instr
unary_instruction Move rd rs1 = i.Addi rd rs1 0
unary_instruction Not rd rs1 = i.Xori rd rs1 0xffffffff
unary_instruction IsZero rd rs1 = i.Sltiu rd rs1 1

-- `op rd, rs1`
abbrev pub unary : Unary → Operands → Said
unary op (Two rd rs1) =
    and_then (register_in rd) (λ rd. and_then (register_in rs1) (λ rs1. one (unary_instruction op rd rs1)))
unary op others = Err BadOperand

-- ---- branches

-- `op rs1, rs2, target`
abbrev pub branch : Condition → Operands → Said
branch condition (Three rs1 rs2 target) =
    and_then (register_in rs1) (λ rs1. and_then (register_in rs2) (λ rs2.
    and_then (target_in target) (λ target. Ok (say.Branch condition rs1 rs2 target))))
branch condition others = Err BadOperand

-- `op rs2, rs1, target`
abbrev pub swapped : Condition → Operands → Said
swapped condition (Three rs2 rs1 target) =
    and_then (register_in rs2) (λ rs2. and_then (register_in rs1) (λ rs1.
    and_then (target_in target) (λ target. Ok (say.Branch condition rs1 rs2 target))))
swapped condition others = Err BadOperand

-- `op rs1, target`: the second register is x0
abbrev pub against_zero : Condition → Operands → Said
against_zero condition (Two rs1 target) =
    and_then (register_in rs1) (λ rs1. and_then (target_in target) (λ target. Ok (say.Branch condition rs1 0 target)))
against_zero condition others = Err BadOperand

-- `op rs2, target`: the first register is x0
abbrev pub zero_against : Condition → Operands → Said
zero_against condition (Two rs2 target) =
    and_then (register_in rs2) (λ rs2. and_then (target_in target) (λ target. Ok (say.Branch condition 0 rs2 target)))
zero_against condition others = Err BadOperand

-- ---- jumps

-- `jal` with this register
abbrev pub jump_to : ℕ → List ℕ → Said
jump_to rd target = and_then (target_in target) (λ target. Ok (say.Jump rd target))

-- `j t`, which is jal x0, t
abbrev pub jump : Operands → Said
jump (One target) = jump_to 0 target
jump others = Err BadOperand

-- `jal t`, which is jal x1, t; and `jal d, t`
abbrev pub jump_and_link : Operands → Said
jump_and_link (One target) = jump_to 1 target
jump_and_link (Two rd target) = and_then (register_in rd) (λ rd. jump_to rd target)
jump_and_link others = Err BadOperand

-- `jalr` with this register, and no offset
abbrev pub jump_register_to : ℕ → List ℕ → Said
jump_register_to rd rs1 = and_then (register_in rs1) (λ rs1. one (i.Jalr rd rs1 0))

-- `jr s`, which is jalr x0, 0(s)
abbrev pub jump_register : Operands → Said
jump_register (One rs1) = jump_register_to 0 rs1
jump_register others = Err BadOperand

-- `jalr s`, which is jalr x1, 0(s); and `jalr d, imm(s)` and `jalr d, s, imm`
abbrev pub jump_and_link_register : Operands → Said
jump_and_link_register (One rs1) = jump_register_to 1 rs1
jump_and_link_register (Two rd access) = load Jalr (Two rd access)
jump_and_link_register (Three rd rs1 imm) = immediate Jalr (Three rd rs1 imm)
jump_and_link_register others = Err BadOperand

-- ---- constants and addresses

-- the upper 20 bits
abbrev pub upper_in : List ℕ → Result ℕ LineError
upper_in text = and_then (bits_in 0 1048575 text) (λ bits. Ok (bits * 4096))

-- a number, or `%hi` and a label
abbrev pub upper_by : ℕ → List ℕ → Option (List ℕ) → Said
upper_by rd text None = and_then (upper_in text) (λ imm. one (i.Lui rd imm))
upper_by rd text (Some after) = and_then (part_in after) (λ label. Ok (say.Upper rd label))

-- `lui`
abbrev pub load_upper : Operands → Said
load_upper (Two rd text) = and_then (register_in rd) (λ rd. upper_by rd text (stripped (codes "%hi") text))
load_upper others = Err BadOperand

-- `auipc`
abbrev pub add_upper : Operands → Said
add_upper (Two rd text) = and_then (register_in rd) (λ rd. and_then (upper_in text) (λ imm. one (i.Auipc rd imm)))
add_upper others = Err BadOperand

-- a number as an ADDI where it fits one, else as a LUI, and an ADDI where its lower part is not 0
abbrev pub constant : ℕ → ℕ → Statement
constant rd n = if nat_lt ((n + 2048) % 2 ^ 32) 4096 then say.One (i.Addi rd 0 n)
    else if n % 4096 == 0 then say.One (i.Lui rd (upper_part n))
    else say.Two (i.Lui rd (upper_part n)) (i.Addi rd rd (lower_part n))

-- `li`
abbrev pub load_immediate : Operands → Said
load_immediate (Two rd number) =
    and_then (register_in rd) (λ rd. and_then (constant_in number) (λ n. Ok (constant rd n)))
load_immediate others = Err BadOperand

-- `la`
abbrev pub load_address : Operands → Said
load_address (Two rd label) =
    and_then (register_in rd) (λ rd. and_then (label_in label) (λ label. Ok (say.LoadAddress rd label)))
load_address others = Err BadOperand

-- `call`
abbrev pub call : Operands → Said
call (One label) = and_then (label_in label) (λ label. Ok (say.Call label))
call others = Err BadOperand

-- ---- mnemonics that may stand alone

-- nop is addi x0, x0, 0; ret is jalr x0, 0(x1)
abbrev pub fixed_instruction : Fixed → Instr
fixed_instruction Nop = i.Addi 0 0 0
fixed_instruction Return = i.Jalr 0 1 0
fixed_instruction Ecall = i.Ecall
fixed_instruction Ebreak = i.Ebreak

-- a mnemonic without operands
abbrev pub fixed : Fixed → Operands → Said
fixed op Zero = one (fixed_instruction op)
fixed op others = Err BadOperand

-- fence alone is fence iorw, iorw
abbrev pub fence_of : ℕ → ℕ → Instr
fence_of before after = i.Fence 0 before after 0 0

-- `fence`, which is fence iorw, iorw; and `fence before, after`
abbrev pub fence : Operands → Said
fence Zero = one (fence_of 15 15)
fence (Two before after) =
    and_then (set_in before) (λ before. and_then (set_in after) (λ after. one (fence_of before after)))
fence others = Err BadOperand
