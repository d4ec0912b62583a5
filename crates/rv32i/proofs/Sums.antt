-- The word of an instruction: a sum of its fields that is of its format, and the only one that is.
use Rattle.rv32i.proofs.Common.{arith, BType, FenceType, IType, JType, RType, SType, UType, ℕ, ◌%◌, ◌*◌, ◌+◌, ◌/◌, ◌<◌, ◌^◌, ◌≡◌}

pub r_sum : (opcode funct3 funct7 rd rs1 rs2 word : ℕ) → rd < 2 ^ 5 → rs1 < 2 ^ 5 → rs2 < 2 ^ 5
    → word ≡ funct7 * 2 ^ 25 + rs2 * 2 ^ 20 + rs1 * 2 ^ 15 + funct3 * 2 ^ 12 + rd * 2 ^ 7 + opcode
    → RType opcode funct3 funct7 rd rs1 rs2 word
r_sum opcode funct3 funct7 rd rs1 rs2 word d s t e = record { rd_fits = d; rs1_fits = s; rs2_fits = t; sum = e }

pub i_sum : (opcode funct3 rd rs1 imm word : ℕ) → rd < 2 ^ 5 → rs1 < 2 ^ 5 → imm < 2 ^ 32 → (imm + 2048) % 2 ^ 32 < 4096
    → word ≡ imm % 2 ^ 12 * 2 ^ 20 + rs1 * 2 ^ 15 + funct3 * 2 ^ 12 + rd * 2 ^ 7 + opcode → IType opcode funct3 rd rs1 imm word
i_sum opcode funct3 rd rs1 imm word d s fits within e =
    record {
      sign = imm / 2 ^ 31;
      low = imm % 2 ^ 11;
      sign_fits = omega arith;
      low_fits = omega arith;
      rd_fits = d;
      rs1_fits = s;
      value = omega arith;
      sum = omega arith;
    }

pub s_sum : (opcode funct3 rs1 rs2 imm word : ℕ) → rs1 < 2 ^ 5 → rs2 < 2 ^ 5 → imm < 2 ^ 32 → (imm + 2048) % 2 ^ 32 < 4096
    → word ≡ imm / 2 ^ 5 % 2 ^ 7 * 2 ^ 25 + rs2 * 2 ^ 20 + rs1 * 2 ^ 15 + funct3 * 2 ^ 12 + imm % 2 ^ 5 * 2 ^ 7 + opcode
    → SType opcode funct3 rs1 rs2 imm word
s_sum opcode funct3 rs1 rs2 imm word s t fits within e =
    record {
      sign = imm / 2 ^ 31;
      high = imm / 2 ^ 5 % 2 ^ 6;
      low = imm % 2 ^ 5;
      sign_fits = omega arith;
      high_fits = omega arith;
      low_fits = omega arith;
      rs1_fits = s;
      rs2_fits = t;
      value = omega arith;
      sum = omega arith;
    }

pub b_sum : (opcode funct3 rs1 rs2 offset word : ℕ) → rs1 < 2 ^ 5 → rs2 < 2 ^ 5 → offset < 2 ^ 32 → (offset + 4096) % 2 ^ 32 < 8192
    → offset % 2 ≡ 0
    → word ≡ offset / 2 ^ 31 * 2 ^ 31 + offset / 2 ^ 5 % 2 ^ 6 * 2 ^ 25 + rs2 * 2 ^ 20 + rs1 * 2 ^ 15 + funct3 * 2 ^ 12 + offset / 2 % 2 ^ 4 * 2 ^ 8 + offset / 2 ^ 11 % 2 * 2 ^ 7 + opcode
    → BType opcode funct3 rs1 rs2 offset word
b_sum opcode funct3 rs1 rs2 offset word s t fits within even e =
    record {
      sign = offset / 2 ^ 31;
      bit11 = offset / 2 ^ 11 % 2;
      high = offset / 2 ^ 5 % 2 ^ 6;
      low = offset / 2 % 2 ^ 4;
      sign_fits = omega arith;
      bit11_fits = omega arith;
      high_fits = omega arith;
      low_fits = omega arith;
      rs1_fits = s;
      rs2_fits = t;
      value = omega arith;
      sum = omega arith;
    }

pub u_sum : (opcode rd imm word : ℕ) → rd < 2 ^ 5 → imm < 2 ^ 32 → imm % 4096 ≡ 0 → word ≡ imm + rd * 2 ^ 7 + opcode
    → UType opcode rd imm word
u_sum opcode rd imm word d fits low e =
    record { high = imm / 2 ^ 12; high_fits = omega arith; rd_fits = d; value = omega arith; sum = omega arith }

pub j_sum : (opcode rd offset word : ℕ) → rd < 2 ^ 5 → offset < 2 ^ 32 → (offset + 1048576) % 2 ^ 32 < 2097152 → offset % 2 ≡ 0
    → word ≡ offset / 2 ^ 31 * 2 ^ 31 + offset / 2 % 2 ^ 10 * 2 ^ 21 + offset / 2 ^ 11 % 2 * 2 ^ 20 + offset / 2 ^ 12 % 2 ^ 8 * 2 ^ 12 + rd * 2 ^ 7 + opcode
    → JType opcode rd offset word
j_sum opcode rd offset word d fits within even e =
    record {
      sign = offset / 2 ^ 31;
      high = offset / 2 ^ 12 % 2 ^ 8;
      bit11 = offset / 2 ^ 11 % 2;
      low = offset / 2 % 2 ^ 10;
      sign_fits = omega arith;
      high_fits = omega arith;
      bit11_fits = omega arith;
      low_fits = omega arith;
      rd_fits = d;
      value = omega arith;
      sum = omega arith;
    }

pub fence_sum : (opcode funct3 fm before after rd rs1 word : ℕ) → fm < 2 ^ 4 → before < 2 ^ 4 → after < 2 ^ 4 → rd < 2 ^ 5 → rs1 < 2 ^ 5
    → word ≡ fm * 2 ^ 28 + before * 2 ^ 24 + after * 2 ^ 20 + rs1 * 2 ^ 15 + funct3 * 2 ^ 12 + rd * 2 ^ 7 + opcode
    → FenceType opcode funct3 fm before after rd rs1 word
fence_sum opcode funct3 fm before after rd rs1 word m p q d s e =
    record { fm_fits = m; before_fits = p; after_fits = q; rd_fits = d; rs1_fits = s; sum = e }

pub r_unique : (opcode funct3 funct7 rd rs1 rs2 v w : ℕ) → RType opcode funct3 funct7 rd rs1 rs2 v → RType opcode funct3 funct7 rd rs1 rs2 w
    → v ≡ w
r_unique opcode funct3 funct7 rd rs1 rs2 v w a b = omega arith

pub i_unique : (opcode funct3 rd rs1 imm v w : ℕ) → IType opcode funct3 rd rs1 imm v → IType opcode funct3 rd rs1 imm w → v ≡ w
i_unique opcode funct3 rd rs1 imm v w a b = omega arith

pub s_unique : (opcode funct3 rs1 rs2 imm v w : ℕ) → SType opcode funct3 rs1 rs2 imm v → SType opcode funct3 rs1 rs2 imm w → v ≡ w
s_unique opcode funct3 rs1 rs2 imm v w a b = omega arith

pub b_unique : (opcode funct3 rs1 rs2 offset v w : ℕ) → BType opcode funct3 rs1 rs2 offset v → BType opcode funct3 rs1 rs2 offset w → v ≡ w
b_unique opcode funct3 rs1 rs2 offset v w a b = omega arith

pub u_unique : (opcode rd imm v w : ℕ) → UType opcode rd imm v → UType opcode rd imm w → v ≡ w
u_unique opcode rd imm v w a b = omega arith

pub j_unique : (opcode rd offset v w : ℕ) → JType opcode rd offset v → JType opcode rd offset w → v ≡ w
j_unique opcode rd offset v w a b = omega arith

pub fence_unique : (opcode funct3 fm before after rd rs1 v w : ℕ) → FenceType opcode funct3 fm before after rd rs1 v
    → FenceType opcode funct3 fm before after rd rs1 w → v ≡ w
fence_unique opcode funct3 fm before after rd rs1 v w a b = omega arith
