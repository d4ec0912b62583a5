-- The word of an instruction as a function of it (RISC-V Unprivileged ISA 20191213, sections 2.2 and 2.3, chapter 24).
--
-- `Encoding` relates an instruction to its words: there are fields, each within its width, that make up the operands
-- and sum to the word. Here the fields are cut out of the operands instead: imm[11:5] is imm / 2 ^ 5 % 2 ^ 7. So each
-- sum is a row of the manual's figures again, the bits from 31 down to 0. An immediate and an offset are 32 bits,
-- sign-extended: what is cut out of the low ones says all of them. An instruction whose operands do not fit has no
-- encoding, and what is computed of it means nothing.
use Rattle.std.specs.Prelude.{◌≡◌, ℕ, ◌+◌, ◌*◌, ◌/◌, ◌%◌, ◌^◌, refl}
use Rattle.rv32i.specs.declared.instr.Instr.{Instr}
use Rattle.rv32i.specs.declared.instr.Instr.TheVariants.{Lui, Auipc, Jal, Jalr, Beq, Bne, Blt, Bge, Bltu, Bgeu, Lb, Lh}
use Rattle.rv32i.specs.declared.instr.Instr.TheVariants.{Lw, Lbu, Lhu, Sb, Sh, Sw, Addi, Slti, Sltiu, Xori, Ori, Andi}
use Rattle.rv32i.specs.declared.instr.Instr.TheVariants.{Slli, Srli, Srai, Add, Sub, Sll, Slt, Sltu, Xor, Srl, Sra, Or}
use Rattle.rv32i.specs.declared.instr.Instr.TheVariants.{And, Fence, Ecall, Ebreak}

-- R: funct7 31:25, rs2 24:20, rs1 19:15, funct3 14:12, rd 11:7, opcode 6:0
abbrev pub r_word : (opcode funct3 funct7 rd rs1 rs2 : ℕ) → ℕ
r_word opcode funct3 funct7 rd rs1 rs2 =
    funct7 * 2 ^ 25 + rs2 * 2 ^ 20 + rs1 * 2 ^ 15 + funct3 * 2 ^ 12 + rd * 2 ^ 7 + opcode

-- I: imm[11:0] 31:20, rs1 19:15, funct3 14:12, rd 11:7, opcode 6:0
abbrev pub i_word : (opcode funct3 rd rs1 imm : ℕ) → ℕ
i_word opcode funct3 rd rs1 imm = imm % 2 ^ 12 * 2 ^ 20 + rs1 * 2 ^ 15 + funct3 * 2 ^ 12 + rd * 2 ^ 7 + opcode

-- S: imm[11:5] 31:25, rs2 24:20, rs1 19:15, funct3 14:12, imm[4:0] 11:7, opcode 6:0
abbrev pub s_word : (opcode funct3 rs1 rs2 imm : ℕ) → ℕ
s_word opcode funct3 rs1 rs2 imm =
    imm / 2 ^ 5 % 2 ^ 7 * 2 ^ 25 + rs2 * 2 ^ 20 + rs1 * 2 ^ 15 + funct3 * 2 ^ 12 + imm % 2 ^ 5 * 2 ^ 7 + opcode

-- B: imm[12] 31, imm[10:5] 30:25, rs2 24:20, rs1 19:15, funct3 14:12, imm[4:1] 11:8, imm[11] 7, opcode 6:0
abbrev pub b_word : (opcode funct3 rs1 rs2 offset : ℕ) → ℕ
b_word opcode funct3 rs1 rs2 offset = offset / 2 ^ 12 % 2 * 2 ^ 31 + offset / 2 ^ 5 % 2 ^ 6 * 2 ^ 25 + rs2 * 2 ^ 20
    + rs1 * 2 ^ 15 + funct3 * 2 ^ 12 + offset / 2 % 2 ^ 4 * 2 ^ 8 + offset / 2 ^ 11 % 2 * 2 ^ 7 + opcode

-- U: imm[31:12] 31:12, rd 11:7, opcode 6:0
abbrev pub u_word : (opcode rd imm : ℕ) → ℕ
u_word opcode rd imm = imm / 2 ^ 12 * 2 ^ 12 + rd * 2 ^ 7 + opcode

-- J: imm[20] 31, imm[10:1] 30:21, imm[11] 20, imm[19:12] 19:12, rd 11:7, opcode 6:0
abbrev pub j_word : (opcode rd offset : ℕ) → ℕ
j_word opcode rd offset = offset / 2 ^ 20 % 2 * 2 ^ 31 + offset / 2 % 2 ^ 10 * 2 ^ 21 + offset / 2 ^ 11 % 2 * 2 ^ 20
    + offset / 2 ^ 12 % 2 ^ 8 * 2 ^ 12 + rd * 2 ^ 7 + opcode

-- FENCE: fm 31:28, predecessor set 27:24, successor set 23:20, rs1 19:15, funct3 14:12, rd 11:7, opcode 6:0
abbrev pub fence_word : (opcode funct3 fm before after rd rs1 : ℕ) → ℕ
fence_word opcode funct3 fm before after rd rs1 =
    fm * 2 ^ 28 + before * 2 ^ 24 + after * 2 ^ 20 + rs1 * 2 ^ 15 + funct3 * 2 ^ 12 + rd * 2 ^ 7 + opcode

-- the word of each instruction
abbrev pub word_of : Instr → ℕ
word_of (Lui rd imm) = u_word 0b0110111 rd imm
word_of (Auipc rd imm) = u_word 0b0010111 rd imm
word_of (Jal rd offset) = j_word 0b1101111 rd offset
word_of (Jalr rd rs1 imm) = i_word 0b1100111 0b000 rd rs1 imm
word_of (Beq rs1 rs2 offset) = b_word 0b1100011 0b000 rs1 rs2 offset
word_of (Bne rs1 rs2 offset) = b_word 0b1100011 0b001 rs1 rs2 offset
word_of (Blt rs1 rs2 offset) = b_word 0b1100011 0b100 rs1 rs2 offset
word_of (Bge rs1 rs2 offset) = b_word 0b1100011 0b101 rs1 rs2 offset
word_of (Bltu rs1 rs2 offset) = b_word 0b1100011 0b110 rs1 rs2 offset
word_of (Bgeu rs1 rs2 offset) = b_word 0b1100011 0b111 rs1 rs2 offset
word_of (Lb rd rs1 imm) = i_word 0b0000011 0b000 rd rs1 imm
word_of (Lh rd rs1 imm) = i_word 0b0000011 0b001 rd rs1 imm
word_of (Lw rd rs1 imm) = i_word 0b0000011 0b010 rd rs1 imm
word_of (Lbu rd rs1 imm) = i_word 0b0000011 0b100 rd rs1 imm
word_of (Lhu rd rs1 imm) = i_word 0b0000011 0b101 rd rs1 imm
word_of (Sb rs1 rs2 imm) = s_word 0b0100011 0b000 rs1 rs2 imm
word_of (Sh rs1 rs2 imm) = s_word 0b0100011 0b001 rs1 rs2 imm
word_of (Sw rs1 rs2 imm) = s_word 0b0100011 0b010 rs1 rs2 imm
word_of (Addi rd rs1 imm) = i_word 0b0010011 0b000 rd rs1 imm
word_of (Slti rd rs1 imm) = i_word 0b0010011 0b010 rd rs1 imm
word_of (Sltiu rd rs1 imm) = i_word 0b0010011 0b011 rd rs1 imm
word_of (Xori rd rs1 imm) = i_word 0b0010011 0b100 rd rs1 imm
word_of (Ori rd rs1 imm) = i_word 0b0010011 0b110 rd rs1 imm
word_of (Andi rd rs1 imm) = i_word 0b0010011 0b111 rd rs1 imm
word_of (Slli rd rs1 shamt) = r_word 0b0010011 0b001 0b0000000 rd rs1 shamt
word_of (Srli rd rs1 shamt) = r_word 0b0010011 0b101 0b0000000 rd rs1 shamt
word_of (Srai rd rs1 shamt) = r_word 0b0010011 0b101 0b0100000 rd rs1 shamt
word_of (Add rd rs1 rs2) = r_word 0b0110011 0b000 0b0000000 rd rs1 rs2
word_of (Sub rd rs1 rs2) = r_word 0b0110011 0b000 0b0100000 rd rs1 rs2
word_of (Sll rd rs1 rs2) = r_word 0b0110011 0b001 0b0000000 rd rs1 rs2
word_of (Slt rd rs1 rs2) = r_word 0b0110011 0b010 0b0000000 rd rs1 rs2
word_of (Sltu rd rs1 rs2) = r_word 0b0110011 0b011 0b0000000 rd rs1 rs2
word_of (Xor rd rs1 rs2) = r_word 0b0110011 0b100 0b0000000 rd rs1 rs2
word_of (Srl rd rs1 rs2) = r_word 0b0110011 0b101 0b0000000 rd rs1 rs2
word_of (Sra rd rs1 rs2) = r_word 0b0110011 0b101 0b0100000 rd rs1 rs2
word_of (Or rd rs1 rs2) = r_word 0b0110011 0b110 0b0000000 rd rs1 rs2
word_of (And rd rs1 rs2) = r_word 0b0110011 0b111 0b0000000 rd rs1 rs2
word_of (Fence fm before after rd rs1) = fence_word 0b0001111 0b000 fm before after rd rs1
word_of Ecall = 0x00000073
word_of Ebreak = 0x00100073

-- `addi sp, sp, -16`
word_of_addi : word_of (Addi 2 2 0xfffffff0) ≡ 0xff010113
word_of_addi = refl

-- a branch to 8 bytes before
word_of_bne : word_of (Bne 10 0 0xfffffff8) ≡ 0xfe051ce3
word_of_bne = refl

-- `jal ra` to 4 bytes before
word_of_jal : word_of (Jal 1 0xfffffffc) ≡ 0xffdff0ef
word_of_jal = refl

-- `sw a0, -4(sp)`
word_of_sw : word_of (Sw 2 10 0xfffffffc) ≡ 0xfea12e23
word_of_sw = refl
