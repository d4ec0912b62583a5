-- The table of encodings (RISC-V Unprivileged ISA 20191213, chapter 24, "RV32I Base Instruction Set"; chapter 2).
--
-- One row for each instruction: its format, its opcode, funct3 and funct7 as the manual prints them, and its operands.
-- "Encodes i word" says that the word is the encoding of the instruction i: the fields of i are within their widths
-- and, each times its power of two, sum to the word. A word that no instruction has is illegal.
--
-- Beside the 40 instructions of RV32I nothing is decoded: FENCE.I and the other SYSTEM words are illegal, and so is a
-- shift by an immediate in whose word bit 25 is set. FENCE takes any value in its fields, the reserved ones too;
-- FENCE.TSO is a FENCE whose mode is 8.
use Rattle.std.specs.Prelude.{◌≡◌, ℕ, Option, MatchOption}
use Rattle.rv32i.specs.Formats.{RType, IType, ShiftType, SType, BType, UType, JType, FenceType}
use Rattle.rv32i.specs.declared.instr.Instr.{Instr}
use Rattle.rv32i.specs.declared.instr.Instr.TheVariants.{Lui, Auipc, Jal, Jalr, Beq, Bne, Blt, Bge, Bltu, Bgeu, Lb, Lh}
use Rattle.rv32i.specs.declared.instr.Instr.TheVariants.{Lw, Lbu, Lhu, Sb, Sh, Sw, Addi, Slti, Sltiu, Xori, Ori, Andi}
use Rattle.rv32i.specs.declared.instr.Instr.TheVariants.{Slli, Srli, Srai, Add, Sub, Sll, Slt, Sltu, Xor, Srl, Sra, Or}
use Rattle.rv32i.specs.declared.instr.Instr.TheVariants.{And, Fence, Ecall, Ebreak}

-- the table: the words of each instruction
abbrev pub Encodes : Instr → ℕ → Type 0
Encodes (Lui rd imm) word = UType 0b0110111 rd imm word
Encodes (Auipc rd imm) word = UType 0b0010111 rd imm word
Encodes (Jal rd offset) word = JType 0b1101111 rd offset word
Encodes (Jalr rd rs1 imm) word = IType 0b1100111 0b000 rd rs1 imm word
Encodes (Beq rs1 rs2 offset) word = BType 0b1100011 0b000 rs1 rs2 offset word
Encodes (Bne rs1 rs2 offset) word = BType 0b1100011 0b001 rs1 rs2 offset word
Encodes (Blt rs1 rs2 offset) word = BType 0b1100011 0b100 rs1 rs2 offset word
Encodes (Bge rs1 rs2 offset) word = BType 0b1100011 0b101 rs1 rs2 offset word
Encodes (Bltu rs1 rs2 offset) word = BType 0b1100011 0b110 rs1 rs2 offset word
Encodes (Bgeu rs1 rs2 offset) word = BType 0b1100011 0b111 rs1 rs2 offset word
Encodes (Lb rd rs1 imm) word = IType 0b0000011 0b000 rd rs1 imm word
Encodes (Lh rd rs1 imm) word = IType 0b0000011 0b001 rd rs1 imm word
Encodes (Lw rd rs1 imm) word = IType 0b0000011 0b010 rd rs1 imm word
Encodes (Lbu rd rs1 imm) word = IType 0b0000011 0b100 rd rs1 imm word
Encodes (Lhu rd rs1 imm) word = IType 0b0000011 0b101 rd rs1 imm word
Encodes (Sb rs1 rs2 imm) word = SType 0b0100011 0b000 rs1 rs2 imm word
Encodes (Sh rs1 rs2 imm) word = SType 0b0100011 0b001 rs1 rs2 imm word
Encodes (Sw rs1 rs2 imm) word = SType 0b0100011 0b010 rs1 rs2 imm word
Encodes (Addi rd rs1 imm) word = IType 0b0010011 0b000 rd rs1 imm word
Encodes (Slti rd rs1 imm) word = IType 0b0010011 0b010 rd rs1 imm word
Encodes (Sltiu rd rs1 imm) word = IType 0b0010011 0b011 rd rs1 imm word
Encodes (Xori rd rs1 imm) word = IType 0b0010011 0b100 rd rs1 imm word
Encodes (Ori rd rs1 imm) word = IType 0b0010011 0b110 rd rs1 imm word
Encodes (Andi rd rs1 imm) word = IType 0b0010011 0b111 rd rs1 imm word
Encodes (Slli rd rs1 shamt) word = ShiftType 0b0010011 0b001 0b0000000 rd rs1 shamt word
Encodes (Srli rd rs1 shamt) word = ShiftType 0b0010011 0b101 0b0000000 rd rs1 shamt word
Encodes (Srai rd rs1 shamt) word = ShiftType 0b0010011 0b101 0b0100000 rd rs1 shamt word
Encodes (Add rd rs1 rs2) word = RType 0b0110011 0b000 0b0000000 rd rs1 rs2 word
Encodes (Sub rd rs1 rs2) word = RType 0b0110011 0b000 0b0100000 rd rs1 rs2 word
Encodes (Sll rd rs1 rs2) word = RType 0b0110011 0b001 0b0000000 rd rs1 rs2 word
Encodes (Slt rd rs1 rs2) word = RType 0b0110011 0b010 0b0000000 rd rs1 rs2 word
Encodes (Sltu rd rs1 rs2) word = RType 0b0110011 0b011 0b0000000 rd rs1 rs2 word
Encodes (Xor rd rs1 rs2) word = RType 0b0110011 0b100 0b0000000 rd rs1 rs2 word
Encodes (Srl rd rs1 rs2) word = RType 0b0110011 0b101 0b0000000 rd rs1 rs2 word
Encodes (Sra rd rs1 rs2) word = RType 0b0110011 0b101 0b0100000 rd rs1 rs2 word
Encodes (Or rd rs1 rs2) word = RType 0b0110011 0b110 0b0000000 rd rs1 rs2 word
Encodes (And rd rs1 rs2) word = RType 0b0110011 0b111 0b0000000 rd rs1 rs2 word
Encodes (Fence fm before after rd rs1) word = FenceType 0b0001111 0b000 fm before after rd rs1 word
Encodes Ecall word = word ≡ 0x00000073
Encodes Ebreak word = word ≡ 0x00100073

-- no instruction has this word
abbrev pub IsIllegal : ℕ → Type 0
IsIllegal word = (i : Instr) → Encodes i word → ⊥

-- what a word decodes to: the instruction that it encodes, or nothing where there is none
abbrev pub IsDecoding : ℕ → Option Instr → Type 0
IsDecoding word decoded = MatchOption decoded (IsIllegal word) (λ i. Encodes i word)
