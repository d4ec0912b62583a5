-- The word of an instruction is the one that its fields sum to.
use Rattle.rv32i.proofs.Common.{Add, Addi, And, Andi, arith, Auipc, Beq, Bge, Bgeu, Blt, Bltu, Bne, BType, Ebreak, Ecall, Encodes, Fence, FenceType, Instr, IType, Jal, Jalr, JType, Lb, Lbu, Lh, Lhu, Lui, Lw, Or, Ori, RType, Sb, Sh, Sll, Slli, Slt, Slti, Sltiu, Sltu, Sra, Srai, Srl, Srli, SType, Sub, Sw, UType, Xor, Xori, ℕ, ◌≡◌}
use Rattle.rv32i.specs.Words.{b_word, fence_word, i_word, j_word, r_word, s_word, u_word, word_of}

r_computed : (opcode funct3 funct7 rd rs1 rs2 word : ℕ) → RType opcode funct3 funct7 rd rs1 rs2 word
    → word ≡ r_word opcode funct3 funct7 rd rs1 rs2
r_computed opcode funct3 funct7 rd rs1 rs2 word t = t.sum

i_computed : (opcode funct3 rd rs1 imm word : ℕ) → IType opcode funct3 rd rs1 imm word → word ≡ i_word opcode funct3 rd rs1 imm
i_computed opcode funct3 rd rs1 imm word t = omega (arith, t.sum, t.sign_fits, t.low_fits, t.value)

s_computed : (opcode funct3 rs1 rs2 imm word : ℕ) → SType opcode funct3 rs1 rs2 imm word → word ≡ s_word opcode funct3 rs1 rs2 imm
s_computed opcode funct3 rs1 rs2 imm word t = omega (arith, t.sum, t.sign_fits, t.high_fits, t.low_fits, t.value)

b_computed : (opcode funct3 rs1 rs2 offset word : ℕ) → BType opcode funct3 rs1 rs2 offset word → word ≡ b_word opcode funct3 rs1 rs2 offset
b_computed opcode funct3 rs1 rs2 offset word t = omega (arith, t.sum, t.sign_fits, t.bit11_fits, t.high_fits, t.low_fits, t.value)

u_computed : (opcode rd imm word : ℕ) → UType opcode rd imm word → word ≡ u_word opcode rd imm
u_computed opcode rd imm word t = omega (arith, t.sum, t.high_fits, t.value)

j_computed : (opcode rd offset word : ℕ) → JType opcode rd offset word → word ≡ j_word opcode rd offset
j_computed opcode rd offset word t = omega (arith, t.sum, t.sign_fits, t.high_fits, t.bit11_fits, t.low_fits, t.value)

fence_computed : (opcode funct3 fm before after rd rs1 word : ℕ) → FenceType opcode funct3 fm before after rd rs1 word
    → word ≡ fence_word opcode funct3 fm before after rd rs1
fence_computed opcode funct3 fm before after rd rs1 word t = t.sum

pub computed : (i : Instr) (word : ℕ) → Encodes i word → word ≡ word_of i
computed (Lui rd imm) word e = u_computed 55 rd imm word e
computed (Auipc rd imm) word e = u_computed 23 rd imm word e
computed (Jal rd offset) word e = j_computed 111 rd offset word e
computed (Jalr rd rs1 imm) word e = i_computed 103 0 rd rs1 imm word e
computed (Beq rs1 rs2 offset) word e = b_computed 99 0 rs1 rs2 offset word e
computed (Bne rs1 rs2 offset) word e = b_computed 99 1 rs1 rs2 offset word e
computed (Blt rs1 rs2 offset) word e = b_computed 99 4 rs1 rs2 offset word e
computed (Bge rs1 rs2 offset) word e = b_computed 99 5 rs1 rs2 offset word e
computed (Bltu rs1 rs2 offset) word e = b_computed 99 6 rs1 rs2 offset word e
computed (Bgeu rs1 rs2 offset) word e = b_computed 99 7 rs1 rs2 offset word e
computed (Lb rd rs1 imm) word e = i_computed 3 0 rd rs1 imm word e
computed (Lh rd rs1 imm) word e = i_computed 3 1 rd rs1 imm word e
computed (Lw rd rs1 imm) word e = i_computed 3 2 rd rs1 imm word e
computed (Lbu rd rs1 imm) word e = i_computed 3 4 rd rs1 imm word e
computed (Lhu rd rs1 imm) word e = i_computed 3 5 rd rs1 imm word e
computed (Sb rs1 rs2 imm) word e = s_computed 35 0 rs1 rs2 imm word e
computed (Sh rs1 rs2 imm) word e = s_computed 35 1 rs1 rs2 imm word e
computed (Sw rs1 rs2 imm) word e = s_computed 35 2 rs1 rs2 imm word e
computed (Addi rd rs1 imm) word e = i_computed 19 0 rd rs1 imm word e
computed (Slti rd rs1 imm) word e = i_computed 19 2 rd rs1 imm word e
computed (Sltiu rd rs1 imm) word e = i_computed 19 3 rd rs1 imm word e
computed (Xori rd rs1 imm) word e = i_computed 19 4 rd rs1 imm word e
computed (Ori rd rs1 imm) word e = i_computed 19 6 rd rs1 imm word e
computed (Andi rd rs1 imm) word e = i_computed 19 7 rd rs1 imm word e
computed (Slli rd rs1 shamt) word e = r_computed 19 1 0 rd rs1 shamt word e
computed (Srli rd rs1 shamt) word e = r_computed 19 5 0 rd rs1 shamt word e
computed (Srai rd rs1 shamt) word e = r_computed 19 5 32 rd rs1 shamt word e
computed (Add rd rs1 rs2) word e = r_computed 51 0 0 rd rs1 rs2 word e
computed (Sub rd rs1 rs2) word e = r_computed 51 0 32 rd rs1 rs2 word e
computed (Sll rd rs1 rs2) word e = r_computed 51 1 0 rd rs1 rs2 word e
computed (Slt rd rs1 rs2) word e = r_computed 51 2 0 rd rs1 rs2 word e
computed (Sltu rd rs1 rs2) word e = r_computed 51 3 0 rd rs1 rs2 word e
computed (Xor rd rs1 rs2) word e = r_computed 51 4 0 rd rs1 rs2 word e
computed (Srl rd rs1 rs2) word e = r_computed 51 5 0 rd rs1 rs2 word e
computed (Sra rd rs1 rs2) word e = r_computed 51 5 32 rd rs1 rs2 word e
computed (Or rd rs1 rs2) word e = r_computed 51 6 0 rd rs1 rs2 word e
computed (And rd rs1 rs2) word e = r_computed 51 7 0 rd rs1 rs2 word e
computed (Fence fm before after rd rs1) word e = fence_computed 15 0 fm before after rd rs1 word e
computed Ecall word e = e
computed Ebreak word e = e
