-- An instruction has one word.
use Rattle.rv32i.proofs.Common.{Add, Addi, And, Andi, Auipc, Beq, Bge, Bgeu, Blt, Bltu, Bne, Ebreak, Ecall, Encodes, Fence, Instr, Jal, Jalr, Lb, Lbu, Lh, Lhu, Lui, Lw, Or, Ori, Sb, Sh, Sll, Slli, Slt, Slti, Sltiu, Sltu, Sra, Srai, Srl, Srli, Sub, Sw, sym, Xor, Xori, ℕ, ◌∙◌, ◌≡◌}
use Rattle.rv32i.proofs.Decoded.{finds}
use Rattle.rv32i.proofs.Sums.{r_unique, i_unique, s_unique, b_unique, u_unique, j_unique, fence_unique}

pub one_word : (i : Instr) (v w : ℕ) → Encodes i v → Encodes i w → v ≡ w
one_word (Lui rd imm) v w a b = u_unique 55 rd imm v w a b
one_word (Auipc rd imm) v w a b = u_unique 23 rd imm v w a b
one_word (Jal rd offset) v w a b = j_unique 111 rd offset v w a b
one_word (Jalr rd rs1 imm) v w a b = i_unique 103 0 rd rs1 imm v w a b
one_word (Beq rs1 rs2 offset) v w a b = b_unique 99 0 rs1 rs2 offset v w a b
one_word (Bne rs1 rs2 offset) v w a b = b_unique 99 1 rs1 rs2 offset v w a b
one_word (Blt rs1 rs2 offset) v w a b = b_unique 99 4 rs1 rs2 offset v w a b
one_word (Bge rs1 rs2 offset) v w a b = b_unique 99 5 rs1 rs2 offset v w a b
one_word (Bltu rs1 rs2 offset) v w a b = b_unique 99 6 rs1 rs2 offset v w a b
one_word (Bgeu rs1 rs2 offset) v w a b = b_unique 99 7 rs1 rs2 offset v w a b
one_word (Lb rd rs1 imm) v w a b = i_unique 3 0 rd rs1 imm v w a b
one_word (Lh rd rs1 imm) v w a b = i_unique 3 1 rd rs1 imm v w a b
one_word (Lw rd rs1 imm) v w a b = i_unique 3 2 rd rs1 imm v w a b
one_word (Lbu rd rs1 imm) v w a b = i_unique 3 4 rd rs1 imm v w a b
one_word (Lhu rd rs1 imm) v w a b = i_unique 3 5 rd rs1 imm v w a b
one_word (Sb rs1 rs2 imm) v w a b = s_unique 35 0 rs1 rs2 imm v w a b
one_word (Sh rs1 rs2 imm) v w a b = s_unique 35 1 rs1 rs2 imm v w a b
one_word (Sw rs1 rs2 imm) v w a b = s_unique 35 2 rs1 rs2 imm v w a b
one_word (Addi rd rs1 imm) v w a b = i_unique 19 0 rd rs1 imm v w a b
one_word (Slti rd rs1 imm) v w a b = i_unique 19 2 rd rs1 imm v w a b
one_word (Sltiu rd rs1 imm) v w a b = i_unique 19 3 rd rs1 imm v w a b
one_word (Xori rd rs1 imm) v w a b = i_unique 19 4 rd rs1 imm v w a b
one_word (Ori rd rs1 imm) v w a b = i_unique 19 6 rd rs1 imm v w a b
one_word (Andi rd rs1 imm) v w a b = i_unique 19 7 rd rs1 imm v w a b
one_word (Slli rd rs1 shamt) v w a b = r_unique 19 1 0 rd rs1 shamt v w a b
one_word (Srli rd rs1 shamt) v w a b = r_unique 19 5 0 rd rs1 shamt v w a b
one_word (Srai rd rs1 shamt) v w a b = r_unique 19 5 32 rd rs1 shamt v w a b
one_word (Add rd rs1 rs2) v w a b = r_unique 51 0 0 rd rs1 rs2 v w a b
one_word (Sub rd rs1 rs2) v w a b = r_unique 51 0 32 rd rs1 rs2 v w a b
one_word (Sll rd rs1 rs2) v w a b = r_unique 51 1 0 rd rs1 rs2 v w a b
one_word (Slt rd rs1 rs2) v w a b = r_unique 51 2 0 rd rs1 rs2 v w a b
one_word (Sltu rd rs1 rs2) v w a b = r_unique 51 3 0 rd rs1 rs2 v w a b
one_word (Xor rd rs1 rs2) v w a b = r_unique 51 4 0 rd rs1 rs2 v w a b
one_word (Srl rd rs1 rs2) v w a b = r_unique 51 5 0 rd rs1 rs2 v w a b
one_word (Sra rd rs1 rs2) v w a b = r_unique 51 5 32 rd rs1 rs2 v w a b
one_word (Or rd rs1 rs2) v w a b = r_unique 51 6 0 rd rs1 rs2 v w a b
one_word (And rd rs1 rs2) v w a b = r_unique 51 7 0 rd rs1 rs2 v w a b
one_word (Fence fm before after rd rs1) v w a b = fence_unique 15 0 fm before after rd rs1 v w a b
one_word Ecall v w a b = a ∙ sym b
one_word Ebreak v w a b = a ∙ sym b

-- A word has at most one instruction.
pub one_instruction : (i j : Instr) (word : ℕ) → Encodes i word → Encodes j word → i ≡ j
one_instruction i j word a b = let p = finds i word a in let q = finds j word b in cc
