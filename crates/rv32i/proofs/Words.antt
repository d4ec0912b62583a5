-- A word's fields by division, and the sums of the formats: each gives the other.
use Rattle.rv32i.proofs.Common.{arith, BType, FenceType, IType, JType, RType, SType, UType, ℕ, ◌%◌, ◌*◌, ◌+◌, ◌-◌, ◌/◌, ◌<◌, ◌^◌, ◌≡◌}

pub r_type : (opcode funct3 funct7 rd rs1 rs2 word : ℕ) → word % 2 ^ 7 ≡ opcode → word / 2 ^ 12 % 2 ^ 3 ≡ funct3 → word / 2 ^ 25 ≡ funct7
    → rd ≡ word / 2 ^ 7 % 2 ^ 5 → rs1 ≡ word / 2 ^ 15 % 2 ^ 5 → rs2 ≡ word / 2 ^ 20 % 2 ^ 5 → RType opcode funct3 funct7 rd rs1 rs2 word
r_type opcode funct3 funct7 rd rs1 rs2 word o f g d s t =
    record { rd_fits = omega arith; rs1_fits = omega arith; rs2_fits = omega arith; sum = omega arith }

pub i_type : (opcode funct3 rd rs1 imm word : ℕ) → word < 2 ^ 32 → word % 2 ^ 7 ≡ opcode → word / 2 ^ 12 % 2 ^ 3 ≡ funct3
    → rd ≡ word / 2 ^ 7 % 2 ^ 5 → rs1 ≡ word / 2 ^ 15 % 2 ^ 5 → imm ≡ word / 2 ^ 31 * (2 ^ 32 - 2 ^ 11) + word / 2 ^ 20 % 2 ^ 11
    → IType opcode funct3 rd rs1 imm word
i_type opcode funct3 rd rs1 imm word h o f d s i =
    record {
      sign = word / 2 ^ 31;
      low = word / 2 ^ 20 % 2 ^ 11;
      sign_fits = omega arith;
      low_fits = omega arith;
      rd_fits = omega arith;
      rs1_fits = omega arith;
      value = i;
      sum = omega arith;
    }

pub s_type : (opcode funct3 rs1 rs2 imm word : ℕ) → word < 2 ^ 32 → word % 2 ^ 7 ≡ opcode → word / 2 ^ 12 % 2 ^ 3 ≡ funct3
    → rs1 ≡ word / 2 ^ 15 % 2 ^ 5 → rs2 ≡ word / 2 ^ 20 % 2 ^ 5
    → imm ≡ word / 2 ^ 31 * (2 ^ 32 - 2 ^ 11) + word / 2 ^ 25 % 2 ^ 6 * 2 ^ 5 + word / 2 ^ 7 % 2 ^ 5 → SType opcode funct3 rs1 rs2 imm word
s_type opcode funct3 rs1 rs2 imm word h o f s t i =
    record {
      sign = word / 2 ^ 31;
      high = word / 2 ^ 25 % 2 ^ 6;
      low = word / 2 ^ 7 % 2 ^ 5;
      sign_fits = omega arith;
      high_fits = omega arith;
      low_fits = omega arith;
      rs1_fits = omega arith;
      rs2_fits = omega arith;
      value = i;
      sum = omega arith;
    }

pub b_type : (opcode funct3 rs1 rs2 offset word : ℕ) → word < 2 ^ 32 → word % 2 ^ 7 ≡ opcode → word / 2 ^ 12 % 2 ^ 3 ≡ funct3
    → rs1 ≡ word / 2 ^ 15 % 2 ^ 5 → rs2 ≡ word / 2 ^ 20 % 2 ^ 5
    → offset ≡ word / 2 ^ 31 * (2 ^ 32 - 2 ^ 12) + word / 2 ^ 7 % 2 * 2 ^ 11 + word / 2 ^ 25 % 2 ^ 6 * 2 ^ 5 + word / 2 ^ 8 % 2 ^ 4 * 2
    → BType opcode funct3 rs1 rs2 offset word
b_type opcode funct3 rs1 rs2 offset word h o f s t i =
    record {
      sign = word / 2 ^ 31;
      bit11 = word / 2 ^ 7 % 2;
      high = word / 2 ^ 25 % 2 ^ 6;
      low = word / 2 ^ 8 % 2 ^ 4;
      sign_fits = omega arith;
      bit11_fits = omega arith;
      high_fits = omega arith;
      low_fits = omega arith;
      rs1_fits = omega arith;
      rs2_fits = omega arith;
      value = i;
      sum = omega arith;
    }

pub u_type : (opcode rd imm word : ℕ) → word < 2 ^ 32 → word % 2 ^ 7 ≡ opcode → rd ≡ word / 2 ^ 7 % 2 ^ 5 → imm ≡ word / 2 ^ 12 * 2 ^ 12
    → UType opcode rd imm word
u_type opcode rd imm word h o d i =
    record { high = word / 2 ^ 12; high_fits = omega arith; rd_fits = omega arith; value = i; sum = omega arith }

pub j_type : (opcode rd offset word : ℕ) → word < 2 ^ 32 → word % 2 ^ 7 ≡ opcode → rd ≡ word / 2 ^ 7 % 2 ^ 5
    → offset ≡ word / 2 ^ 31 * (2 ^ 32 - 2 ^ 20) + word / 2 ^ 12 % 2 ^ 8 * 2 ^ 12 + word / 2 ^ 20 % 2 * 2 ^ 11 + word / 2 ^ 21 % 2 ^ 10 * 2
    → JType opcode rd offset word
j_type opcode rd offset word h o d i =
    record {
      sign = word / 2 ^ 31;
      high = word / 2 ^ 12 % 2 ^ 8;
      bit11 = word / 2 ^ 20 % 2;
      low = word / 2 ^ 21 % 2 ^ 10;
      sign_fits = omega arith;
      high_fits = omega arith;
      bit11_fits = omega arith;
      low_fits = omega arith;
      rd_fits = omega arith;
      value = i;
      sum = omega arith;
    }

pub fence_type : (opcode funct3 fm before after rd rs1 word : ℕ) → word < 2 ^ 32 → word % 2 ^ 7 ≡ opcode → word / 2 ^ 12 % 2 ^ 3 ≡ funct3
    → fm ≡ word / 2 ^ 28 → before ≡ word / 2 ^ 24 % 2 ^ 4 → after ≡ word / 2 ^ 20 % 2 ^ 4 → rd ≡ word / 2 ^ 7 % 2 ^ 5
    → rs1 ≡ word / 2 ^ 15 % 2 ^ 5 → FenceType opcode funct3 fm before after rd rs1 word
fence_type opcode funct3 fm before after rd rs1 word h o f m p q d s =
    record {
      fm_fits = omega arith;
      before_fits = omega arith;
      after_fits = omega arith;
      rd_fits = omega arith;
      rs1_fits = omega arith;
      sum = omega arith;
    }

-- the other way: the sum says what each division gives

pub record RParts (opcode funct3 funct7 rd rs1 rs2 word : ℕ) : Type 0 where
  pub opcode_is : word % 2 ^ 7 ≡ opcode
  pub funct3_is : word / 2 ^ 12 % 2 ^ 3 ≡ funct3
  pub funct7_is : word / 2 ^ 25 ≡ funct7
  pub rd_is : word / 2 ^ 7 % 2 ^ 5 ≡ rd
  pub rs1_is : word / 2 ^ 15 % 2 ^ 5 ≡ rs1
  pub rs2_is : word / 2 ^ 20 % 2 ^ 5 ≡ rs2

pub r_parts : (opcode funct3 funct7 rd rs1 rs2 word : ℕ) → opcode < 2 ^ 7 → funct3 < 2 ^ 3 → RType opcode funct3 funct7 rd rs1 rs2 word
    → RParts opcode funct3 funct7 rd rs1 rs2 word
r_parts opcode funct3 funct7 rd rs1 rs2 word o f t =
    record {
      opcode_is = omega arith;
      funct3_is = omega arith;
      funct7_is = omega arith;
      rd_is = omega arith;
      rs1_is = omega arith;
      rs2_is = omega arith;
    }

pub record IParts (opcode funct3 rd rs1 imm word : ℕ) : Type 0 where
  pub opcode_is : word % 2 ^ 7 ≡ opcode
  pub funct3_is : word / 2 ^ 12 % 2 ^ 3 ≡ funct3
  pub rd_is : word / 2 ^ 7 % 2 ^ 5 ≡ rd
  pub rs1_is : word / 2 ^ 15 % 2 ^ 5 ≡ rs1
  pub imm_is : word / 2 ^ 31 * (2 ^ 32 - 2 ^ 11) + word / 2 ^ 20 % 2 ^ 11 ≡ imm

pub i_parts : (opcode funct3 rd rs1 imm word : ℕ) → opcode < 2 ^ 7 → funct3 < 2 ^ 3 → IType opcode funct3 rd rs1 imm word
    → IParts opcode funct3 rd rs1 imm word
i_parts opcode funct3 rd rs1 imm word o f t =
    record { opcode_is = omega arith; funct3_is = omega arith; rd_is = omega arith; rs1_is = omega arith; imm_is = omega arith }

pub record SParts (opcode funct3 rs1 rs2 imm word : ℕ) : Type 0 where
  pub opcode_is : word % 2 ^ 7 ≡ opcode
  pub funct3_is : word / 2 ^ 12 % 2 ^ 3 ≡ funct3
  pub rs1_is : word / 2 ^ 15 % 2 ^ 5 ≡ rs1
  pub rs2_is : word / 2 ^ 20 % 2 ^ 5 ≡ rs2
  pub imm_is : word / 2 ^ 31 * (2 ^ 32 - 2 ^ 11) + word / 2 ^ 25 % 2 ^ 6 * 2 ^ 5 + word / 2 ^ 7 % 2 ^ 5 ≡ imm

pub s_parts : (opcode funct3 rs1 rs2 imm word : ℕ) → opcode < 2 ^ 7 → funct3 < 2 ^ 3 → SType opcode funct3 rs1 rs2 imm word
    → SParts opcode funct3 rs1 rs2 imm word
s_parts opcode funct3 rs1 rs2 imm word o f t =
    record { opcode_is = omega arith; funct3_is = omega arith; rs1_is = omega arith; rs2_is = omega arith; imm_is = omega arith }

pub record BParts (opcode funct3 rs1 rs2 offset word : ℕ) : Type 0 where
  pub opcode_is : word % 2 ^ 7 ≡ opcode
  pub funct3_is : word / 2 ^ 12 % 2 ^ 3 ≡ funct3
  pub rs1_is : word / 2 ^ 15 % 2 ^ 5 ≡ rs1
  pub rs2_is : word / 2 ^ 20 % 2 ^ 5 ≡ rs2
  pub offset_is : word / 2 ^ 31 * (2 ^ 32 - 2 ^ 12) + word / 2 ^ 7 % 2 * 2 ^ 11 + word / 2 ^ 25 % 2 ^ 6 * 2 ^ 5 + word / 2 ^ 8 % 2 ^ 4 * 2 ≡ offset

pub b_parts : (opcode funct3 rs1 rs2 offset word : ℕ) → opcode < 2 ^ 7 → funct3 < 2 ^ 3 → BType opcode funct3 rs1 rs2 offset word
    → BParts opcode funct3 rs1 rs2 offset word
b_parts opcode funct3 rs1 rs2 offset word o f t =
    record { opcode_is = omega arith; funct3_is = omega arith; rs1_is = omega arith; rs2_is = omega arith; offset_is = omega arith }

pub record UParts (opcode rd imm word : ℕ) : Type 0 where
  pub opcode_is : word % 2 ^ 7 ≡ opcode
  pub rd_is : word / 2 ^ 7 % 2 ^ 5 ≡ rd
  pub imm_is : word / 2 ^ 12 * 2 ^ 12 ≡ imm

pub u_parts : (opcode rd imm word : ℕ) → opcode < 2 ^ 7 → UType opcode rd imm word → UParts opcode rd imm word
u_parts opcode rd imm word o t = record { opcode_is = omega arith; rd_is = omega arith; imm_is = omega arith }

pub record JParts (opcode rd offset word : ℕ) : Type 0 where
  pub opcode_is : word % 2 ^ 7 ≡ opcode
  pub rd_is : word / 2 ^ 7 % 2 ^ 5 ≡ rd
  pub offset_is : word / 2 ^ 31 * (2 ^ 32 - 2 ^ 20) + word / 2 ^ 12 % 2 ^ 8 * 2 ^ 12 + word / 2 ^ 20 % 2 * 2 ^ 11 + word / 2 ^ 21 % 2 ^ 10 * 2 ≡ offset

pub j_parts : (opcode rd offset word : ℕ) → opcode < 2 ^ 7 → JType opcode rd offset word → JParts opcode rd offset word
j_parts opcode rd offset word o t = record { opcode_is = omega arith; rd_is = omega arith; offset_is = omega arith }

pub record FenceParts (opcode funct3 fm before after rd rs1 word : ℕ) : Type 0 where
  pub opcode_is : word % 2 ^ 7 ≡ opcode
  pub funct3_is : word / 2 ^ 12 % 2 ^ 3 ≡ funct3
  pub fm_is : word / 2 ^ 28 ≡ fm
  pub before_is : word / 2 ^ 24 % 2 ^ 4 ≡ before
  pub after_is : word / 2 ^ 20 % 2 ^ 4 ≡ after
  pub rd_is : word / 2 ^ 7 % 2 ^ 5 ≡ rd
  pub rs1_is : word / 2 ^ 15 % 2 ^ 5 ≡ rs1

pub fence_parts : (opcode funct3 fm before after rd rs1 word : ℕ) → opcode < 2 ^ 7 → funct3 < 2 ^ 3
    → FenceType opcode funct3 fm before after rd rs1 word → FenceParts opcode funct3 fm before after rd rs1 word
fence_parts opcode funct3 fm before after rd rs1 word o f t =
    record {
      opcode_is = omega arith;
      funct3_is = omega arith;
      fm_is = omega arith;
      before_is = omega arith;
      after_is = omega arith;
      rd_is = omega arith;
      rs1_is = omega arith;
    }
