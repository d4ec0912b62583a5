-- The instruction formats (RISC-V Unprivileged ISA 20191213, sections 2.2 and 2.3).
--
-- An instruction is a word of 32 bits. Its format says which of its bits belong to which field. A field is a number
-- below a power of two, and the word is the sum of its fields, each times the power of two at which it begins. So
-- each definition here is a row of the manual's figures: the bits from 31 down to 0, as a sum.
--
-- An immediate is given by several fields. "The sign bit for all immediates is always in bit 31 of the instruction":
-- it gives each bit of the immediate from its own place k up to bit 31, so its weight is 2 ^ 32 - 2 ^ k. An
-- immediate is thus written as 32 bits, sign-extended. The offsets of branches and jumps have no field for bit 0,
-- which is 0.
use Rattle.std.specs.Prelude.{◌≡◌, ℕ, ◌+◌, ◌-◌, ◌*◌, ◌^◌, ◌<◌}

-- R, register to register: funct7 31:25, rs2 24:20, rs1 19:15, funct3 14:12, rd 11:7, opcode 6:0
pub record RType (opcode funct3 funct7 rd rs1 rs2 word : ℕ) : Type 0 where
  pub rd_fits : rd < 2 ^ 5
  pub rs1_fits : rs1 < 2 ^ 5
  pub rs2_fits : rs2 < 2 ^ 5
  pub sum : word ≡ funct7 * 2 ^ 25 + rs2 * 2 ^ 20 + rs1 * 2 ^ 15 + funct3 * 2 ^ 12 + rd * 2 ^ 7 + opcode

-- I, register and immediate: imm[11:0] 31:20, rs1 19:15, funct3 14:12, rd 11:7, opcode 6:0
pub record IType (opcode funct3 rd rs1 imm word : ℕ) : Type 0 where
  pub sign : ℕ
  pub low : ℕ
  pub sign_fits : sign < 2
  pub low_fits : low < 2 ^ 11
  pub rd_fits : rd < 2 ^ 5
  pub rs1_fits : rs1 < 2 ^ 5
  pub value : imm ≡ sign * (2 ^ 32 - 2 ^ 11) + low
  pub sum : word ≡ sign * 2 ^ 31 + low * 2 ^ 20 + rs1 * 2 ^ 15 + funct3 * 2 ^ 12 + rd * 2 ^ 7 + opcode

-- I with a shift amount: bits 31:25 as in R, shamt[4:0] 24:20, rs1 19:15, funct3 14:12, rd 11:7, opcode 6:0
abbrev pub ShiftType : (opcode funct3 high rd rs1 shamt word : ℕ) → Type 0
ShiftType opcode funct3 high rd rs1 shamt word = RType opcode funct3 high rd rs1 shamt word

-- S, stores: imm[11:5] 31:25, rs2 24:20, rs1 19:15, funct3 14:12, imm[4:0] 11:7, opcode 6:0
pub record SType (opcode funct3 rs1 rs2 imm word : ℕ) : Type 0 where
  pub sign : ℕ
  pub high : ℕ
  pub low : ℕ
  pub sign_fits : sign < 2
  pub high_fits : high < 2 ^ 6
  pub low_fits : low < 2 ^ 5
  pub rs1_fits : rs1 < 2 ^ 5
  pub rs2_fits : rs2 < 2 ^ 5
  pub value : imm ≡ sign * (2 ^ 32 - 2 ^ 11) + high * 2 ^ 5 + low
  pub sum : word ≡ sign * 2 ^ 31 + high * 2 ^ 25 + rs2 * 2 ^ 20 + rs1 * 2 ^ 15 + funct3 * 2 ^ 12 + low * 2 ^ 7 + opcode

-- B, branches: imm[12] 31, imm[10:5] 30:25, rs2 24:20, rs1 19:15, funct3 14:12, imm[4:1] 11:8, imm[11] 7, opcode 6:0
pub record BType (opcode funct3 rs1 rs2 offset word : ℕ) : Type 0 where
  pub sign : ℕ
  pub bit11 : ℕ
  pub high : ℕ
  pub low : ℕ
  pub sign_fits : sign < 2
  pub bit11_fits : bit11 < 2
  pub high_fits : high < 2 ^ 6
  pub low_fits : low < 2 ^ 4
  pub rs1_fits : rs1 < 2 ^ 5
  pub rs2_fits : rs2 < 2 ^ 5
  pub value : offset ≡ sign * (2 ^ 32 - 2 ^ 12) + bit11 * 2 ^ 11 + high * 2 ^ 5 + low * 2
  pub sum : word ≡ sign * 2 ^ 31 + high * 2 ^ 25 + rs2 * 2 ^ 20 + rs1 * 2 ^ 15 + funct3 * 2 ^ 12 + low * 2 ^ 8
      + bit11 * 2 ^ 7 + opcode

-- U, upper immediate: imm[31:12] 31:12, rd 11:7, opcode 6:0
pub record UType (opcode rd imm word : ℕ) : Type 0 where
  pub high : ℕ
  pub high_fits : high < 2 ^ 20
  pub rd_fits : rd < 2 ^ 5
  pub value : imm ≡ high * 2 ^ 12
  pub sum : word ≡ high * 2 ^ 12 + rd * 2 ^ 7 + opcode

-- J, jumps: imm[20] 31, imm[10:1] 30:21, imm[11] 20, imm[19:12] 19:12, rd 11:7, opcode 6:0
pub record JType (opcode rd offset word : ℕ) : Type 0 where
  pub sign : ℕ
  pub high : ℕ
  pub bit11 : ℕ
  pub low : ℕ
  pub sign_fits : sign < 2
  pub high_fits : high < 2 ^ 8
  pub bit11_fits : bit11 < 2
  pub low_fits : low < 2 ^ 10
  pub rd_fits : rd < 2 ^ 5
  pub value : offset ≡ sign * (2 ^ 32 - 2 ^ 20) + high * 2 ^ 12 + bit11 * 2 ^ 11 + low * 2
  pub sum : word ≡ sign * 2 ^ 31 + low * 2 ^ 21 + bit11 * 2 ^ 20 + high * 2 ^ 12 + rd * 2 ^ 7 + opcode

-- FENCE (section 2.7): fm 31:28, predecessor set 27:24, successor set 23:20, rs1 19:15, funct3 14:12, rd 11:7,
-- opcode 6:0
pub record FenceType (opcode funct3 fm before after rd rs1 word : ℕ) : Type 0 where
  pub fm_fits : fm < 2 ^ 4
  pub before_fits : before < 2 ^ 4
  pub after_fits : after < 2 ^ 4
  pub rd_fits : rd < 2 ^ 5
  pub rs1_fits : rs1 < 2 ^ 5
  pub sum : word ≡ fm * 2 ^ 28 + before * 2 ^ 24 + after * 2 ^ 20 + rs1 * 2 ^ 15 + funct3 * 2 ^ 12 + rd * 2 ^ 7 + opcode
