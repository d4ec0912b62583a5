-- An instruction whose operands fit has a word: the one that is computed of it.
use Rattle.assembler.proofs.Common.{arith, branch_instruction, Condition, Encodes, immediate_instruction, ImmediateOperation, Instr, refl, store_instruction, StoreOperation, ℕ, ◌%◌, ◌+◌, ◌<◌, ◌^◌, ◌≡◌}
use Rattle.rv32i.proofs.Sums.{b_sum, fence_sum, i_sum, j_sum, r_sum, s_sum, u_sum}
use Rattle.rv32i.specs.Formats.{BType, FenceType, IType, JType, RType, SType, UType}
use Rattle.rv32i.specs.Words.{b_word, fence_word, i_word, j_word, r_word, s_word, u_word, word_of}
use Rattle.rv32i.specs.declared.instr.Instr.TheVariants as i
use Rattle.statements.specs.declared.operations.Condition.TheVariants as c
use Rattle.statements.specs.declared.operations.ImmediateOperation.TheVariants as m
use Rattle.statements.specs.declared.operations.StoreOperation.TheVariants as t

-- ---- the ranges of operands

-- the number of a register
abbrev pub IsRegister : ℕ → Type 0
IsRegister n = n < 2 ^ 5

-- 12 bits, sign-extended to 32
pub record IsShort (n : ℕ) : Type 0 where
  pub fits : n < 2 ^ 32
  pub near : (n + 2 ^ 11) % 2 ^ 32 < 2 ^ 12

-- 32 bits, where the low 12 are 0
pub record IsUpper (n : ℕ) : Type 0 where
  pub fits : n < 2 ^ 32
  pub whole : n % 2 ^ 12 ≡ 0

-- an offset that a branch can have
pub record IsBranchOffset (n : ℕ) : Type 0 where
  pub fits : n < 2 ^ 32
  pub near : (n + 2 ^ 12) % 2 ^ 32 < 2 ^ 13
  pub even : n % 2 ≡ 0

-- an offset that JAL can have
pub record IsJumpOffset (n : ℕ) : Type 0 where
  pub fits : n < 2 ^ 32
  pub near : (n + 2 ^ 20) % 2 ^ 32 < 2 ^ 21
  pub even : n % 2 ≡ 0

-- ---- each format

r_encoded : (opcode funct3 funct7 rd rs1 rs2 : ℕ) → IsRegister rd → IsRegister rs1 → IsRegister rs2
    → RType opcode funct3 funct7 rd rs1 rs2 (r_word opcode funct3 funct7 rd rs1 rs2)
r_encoded opcode funct3 funct7 rd rs1 rs2 d a b = r_sum opcode funct3 funct7 rd rs1 rs2 (r_word opcode funct3 funct7 rd rs1 rs2) d a b refl

i_encoded : (opcode funct3 rd rs1 imm : ℕ) → IsRegister rd → IsRegister rs1 → IsShort imm
    → IType opcode funct3 rd rs1 imm (i_word opcode funct3 rd rs1 imm)
i_encoded opcode funct3 rd rs1 imm d a h = i_sum opcode funct3 rd rs1 imm (i_word opcode funct3 rd rs1 imm) d a h.fits h.near refl

s_encoded : (opcode funct3 rs1 rs2 imm : ℕ) → IsRegister rs1 → IsRegister rs2 → IsShort imm
    → SType opcode funct3 rs1 rs2 imm (s_word opcode funct3 rs1 rs2 imm)
s_encoded opcode funct3 rs1 rs2 imm a b h = s_sum opcode funct3 rs1 rs2 imm (s_word opcode funct3 rs1 rs2 imm) a b h.fits h.near refl

b_encoded : (opcode funct3 rs1 rs2 offset : ℕ) → IsRegister rs1 → IsRegister rs2 → IsBranchOffset offset
    → BType opcode funct3 rs1 rs2 offset (b_word opcode funct3 rs1 rs2 offset)
b_encoded opcode funct3 rs1 rs2 offset a b h =
    b_sum opcode funct3 rs1 rs2 offset (b_word opcode funct3 rs1 rs2 offset) a b h.fits h.near h.even (omega arith)

u_encoded : (opcode rd imm : ℕ) → IsRegister rd → IsUpper imm → UType opcode rd imm (u_word opcode rd imm)
u_encoded opcode rd imm d h = u_sum opcode rd imm (u_word opcode rd imm) d h.fits h.whole (omega arith)

j_encoded : (opcode rd offset : ℕ) → IsRegister rd → IsJumpOffset offset → JType opcode rd offset (j_word opcode rd offset)
j_encoded opcode rd offset d h = j_sum opcode rd offset (j_word opcode rd offset) d h.fits h.near h.even (omega arith)

fence_encoded : (opcode funct3 fm before after rd rs1 : ℕ) → fm < 2 ^ 4 → before < 2 ^ 4 → after < 2 ^ 4 → IsRegister rd
    → IsRegister rs1 → FenceType opcode funct3 fm before after rd rs1 (fence_word opcode funct3 fm before after rd rs1)
fence_encoded opcode funct3 fm before after rd rs1 f p q d a =
    fence_sum opcode funct3 fm before after rd rs1 (fence_word opcode funct3 fm before after rd rs1) f p q d a refl

-- ---- each instruction

-- operands that an instruction has room for
abbrev pub Fits : Instr → Type 0
Fits (i.Lui rd imm) = IsRegister rd × IsUpper imm
Fits (i.Auipc rd imm) = IsRegister rd × IsUpper imm
Fits (i.Jal rd offset) = IsRegister rd × IsJumpOffset offset
Fits (i.Jalr rd rs1 imm) = IsRegister rd × IsRegister rs1 × IsShort imm
Fits (i.Beq rs1 rs2 offset) = IsRegister rs1 × IsRegister rs2 × IsBranchOffset offset
Fits (i.Bne rs1 rs2 offset) = IsRegister rs1 × IsRegister rs2 × IsBranchOffset offset
Fits (i.Blt rs1 rs2 offset) = IsRegister rs1 × IsRegister rs2 × IsBranchOffset offset
Fits (i.Bge rs1 rs2 offset) = IsRegister rs1 × IsRegister rs2 × IsBranchOffset offset
Fits (i.Bltu rs1 rs2 offset) = IsRegister rs1 × IsRegister rs2 × IsBranchOffset offset
Fits (i.Bgeu rs1 rs2 offset) = IsRegister rs1 × IsRegister rs2 × IsBranchOffset offset
Fits (i.Lb rd rs1 imm) = IsRegister rd × IsRegister rs1 × IsShort imm
Fits (i.Lh rd rs1 imm) = IsRegister rd × IsRegister rs1 × IsShort imm
Fits (i.Lw rd rs1 imm) = IsRegister rd × IsRegister rs1 × IsShort imm
Fits (i.Lbu rd rs1 imm) = IsRegister rd × IsRegister rs1 × IsShort imm
Fits (i.Lhu rd rs1 imm) = IsRegister rd × IsRegister rs1 × IsShort imm
Fits (i.Sb rs1 rs2 imm) = IsRegister rs1 × IsRegister rs2 × IsShort imm
Fits (i.Sh rs1 rs2 imm) = IsRegister rs1 × IsRegister rs2 × IsShort imm
Fits (i.Sw rs1 rs2 imm) = IsRegister rs1 × IsRegister rs2 × IsShort imm
Fits (i.Addi rd rs1 imm) = IsRegister rd × IsRegister rs1 × IsShort imm
Fits (i.Slti rd rs1 imm) = IsRegister rd × IsRegister rs1 × IsShort imm
Fits (i.Sltiu rd rs1 imm) = IsRegister rd × IsRegister rs1 × IsShort imm
Fits (i.Xori rd rs1 imm) = IsRegister rd × IsRegister rs1 × IsShort imm
Fits (i.Ori rd rs1 imm) = IsRegister rd × IsRegister rs1 × IsShort imm
Fits (i.Andi rd rs1 imm) = IsRegister rd × IsRegister rs1 × IsShort imm
Fits (i.Slli rd rs1 shamt) = IsRegister rd × IsRegister rs1 × (shamt < 2 ^ 5)
Fits (i.Srli rd rs1 shamt) = IsRegister rd × IsRegister rs1 × (shamt < 2 ^ 5)
Fits (i.Srai rd rs1 shamt) = IsRegister rd × IsRegister rs1 × (shamt < 2 ^ 5)
Fits (i.Add rd rs1 rs2) = IsRegister rd × IsRegister rs1 × IsRegister rs2
Fits (i.Sub rd rs1 rs2) = IsRegister rd × IsRegister rs1 × IsRegister rs2
Fits (i.Sll rd rs1 rs2) = IsRegister rd × IsRegister rs1 × IsRegister rs2
Fits (i.Slt rd rs1 rs2) = IsRegister rd × IsRegister rs1 × IsRegister rs2
Fits (i.Sltu rd rs1 rs2) = IsRegister rd × IsRegister rs1 × IsRegister rs2
Fits (i.Xor rd rs1 rs2) = IsRegister rd × IsRegister rs1 × IsRegister rs2
Fits (i.Srl rd rs1 rs2) = IsRegister rd × IsRegister rs1 × IsRegister rs2
Fits (i.Sra rd rs1 rs2) = IsRegister rd × IsRegister rs1 × IsRegister rs2
Fits (i.Or rd rs1 rs2) = IsRegister rd × IsRegister rs1 × IsRegister rs2
Fits (i.And rd rs1 rs2) = IsRegister rd × IsRegister rs1 × IsRegister rs2
Fits (i.Fence fm before after rd rs1) = (fm < 2 ^ 4) × (before < 2 ^ 4) × (after < 2 ^ 4) × IsRegister rd × IsRegister rs1
Fits i.Ecall = Unit {0}
Fits i.Ebreak = Unit {0}

-- an instruction with such operands has a word
pub encoded : (instruction : Instr) → Fits instruction → Encodes instruction (word_of instruction)
encoded (i.Lui rd imm) (d, h) = u_encoded 55 rd imm d h
encoded (i.Auipc rd imm) (d, h) = u_encoded 23 rd imm d h
encoded (i.Jal rd offset) (d, h) = j_encoded 111 rd offset d h
encoded (i.Jalr rd rs1 imm) (d, a, h) = i_encoded 103 0 rd rs1 imm d a h
encoded (i.Beq rs1 rs2 offset) (a, b, h) = b_encoded 99 0 rs1 rs2 offset a b h
encoded (i.Bne rs1 rs2 offset) (a, b, h) = b_encoded 99 1 rs1 rs2 offset a b h
encoded (i.Blt rs1 rs2 offset) (a, b, h) = b_encoded 99 4 rs1 rs2 offset a b h
encoded (i.Bge rs1 rs2 offset) (a, b, h) = b_encoded 99 5 rs1 rs2 offset a b h
encoded (i.Bltu rs1 rs2 offset) (a, b, h) = b_encoded 99 6 rs1 rs2 offset a b h
encoded (i.Bgeu rs1 rs2 offset) (a, b, h) = b_encoded 99 7 rs1 rs2 offset a b h
encoded (i.Lb rd rs1 imm) (d, a, h) = i_encoded 3 0 rd rs1 imm d a h
encoded (i.Lh rd rs1 imm) (d, a, h) = i_encoded 3 1 rd rs1 imm d a h
encoded (i.Lw rd rs1 imm) (d, a, h) = i_encoded 3 2 rd rs1 imm d a h
encoded (i.Lbu rd rs1 imm) (d, a, h) = i_encoded 3 4 rd rs1 imm d a h
encoded (i.Lhu rd rs1 imm) (d, a, h) = i_encoded 3 5 rd rs1 imm d a h
encoded (i.Sb rs1 rs2 imm) (a, b, h) = s_encoded 35 0 rs1 rs2 imm a b h
encoded (i.Sh rs1 rs2 imm) (a, b, h) = s_encoded 35 1 rs1 rs2 imm a b h
encoded (i.Sw rs1 rs2 imm) (a, b, h) = s_encoded 35 2 rs1 rs2 imm a b h
encoded (i.Addi rd rs1 imm) (d, a, h) = i_encoded 19 0 rd rs1 imm d a h
encoded (i.Slti rd rs1 imm) (d, a, h) = i_encoded 19 2 rd rs1 imm d a h
encoded (i.Sltiu rd rs1 imm) (d, a, h) = i_encoded 19 3 rd rs1 imm d a h
encoded (i.Xori rd rs1 imm) (d, a, h) = i_encoded 19 4 rd rs1 imm d a h
encoded (i.Ori rd rs1 imm) (d, a, h) = i_encoded 19 6 rd rs1 imm d a h
encoded (i.Andi rd rs1 imm) (d, a, h) = i_encoded 19 7 rd rs1 imm d a h
encoded (i.Slli rd rs1 shamt) (d, a, h) = r_encoded 19 1 0 rd rs1 shamt d a h
encoded (i.Srli rd rs1 shamt) (d, a, h) = r_encoded 19 5 0 rd rs1 shamt d a h
encoded (i.Srai rd rs1 shamt) (d, a, h) = r_encoded 19 5 32 rd rs1 shamt d a h
encoded (i.Add rd rs1 rs2) (d, a, b) = r_encoded 51 0 0 rd rs1 rs2 d a b
encoded (i.Sub rd rs1 rs2) (d, a, b) = r_encoded 51 0 32 rd rs1 rs2 d a b
encoded (i.Sll rd rs1 rs2) (d, a, b) = r_encoded 51 1 0 rd rs1 rs2 d a b
encoded (i.Slt rd rs1 rs2) (d, a, b) = r_encoded 51 2 0 rd rs1 rs2 d a b
encoded (i.Sltu rd rs1 rs2) (d, a, b) = r_encoded 51 3 0 rd rs1 rs2 d a b
encoded (i.Xor rd rs1 rs2) (d, a, b) = r_encoded 51 4 0 rd rs1 rs2 d a b
encoded (i.Srl rd rs1 rs2) (d, a, b) = r_encoded 51 5 0 rd rs1 rs2 d a b
encoded (i.Sra rd rs1 rs2) (d, a, b) = r_encoded 51 5 32 rd rs1 rs2 d a b
encoded (i.Or rd rs1 rs2) (d, a, b) = r_encoded 51 6 0 rd rs1 rs2 d a b
encoded (i.And rd rs1 rs2) (d, a, b) = r_encoded 51 7 0 rd rs1 rs2 d a b
encoded (i.Fence fm before after rd rs1) (f, p, q, d, a) = fence_encoded 15 0 fm before after rd rs1 f p q d a
encoded i.Ecall h = refl
encoded i.Ebreak h = refl

-- ---- the operands of an operation are those of its instruction

pub immediate_fits : (op : ImmediateOperation) (rd rs1 imm : ℕ) → IsRegister rd → IsRegister rs1 → IsShort imm
    → Fits (immediate_instruction op rd rs1 imm)
immediate_fits m.Addi rd rs1 imm d a h = (d, a, h)
immediate_fits other rd rs1 imm d a h = (d, a, h)

pub store_fits : (op : StoreOperation) (rs1 rs2 imm : ℕ) → IsRegister rs1 → IsRegister rs2 → IsShort imm
    → Fits (store_instruction op rs1 rs2 imm)
store_fits t.Sb rs1 rs2 imm a b h = (a, b, h)
store_fits other rs1 rs2 imm a b h = (a, b, h)

pub branch_fits : (condition : Condition) (rs1 rs2 offset : ℕ) → IsRegister rs1 → IsRegister rs2 → IsBranchOffset offset
    → Fits (branch_instruction condition rs1 rs2 offset)
branch_fits c.Equal rs1 rs2 offset a b h = (a, b, h)
branch_fits other rs1 rs2 offset a b h = (a, b, h)
