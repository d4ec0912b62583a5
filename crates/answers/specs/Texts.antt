-- The disassembly of a word, as a function.
--
-- `rv32i` says by rules when a text is the disassembly of a word at an address (`Texts.IsTextOf`), and that at most one
-- is. As answers are functions of what was asked, the same is said here as a function: each word has a text at
-- each address, by those rules, and `text_at` is it.
use Rattle.std.specs.Prelude.{◌≡◌, ℕ, Bool, true, false, List, Option, Some, None, refl, codes}
use Rattle.std.specs.Bool.{MatchBool}
use Rattle.std.proofs.Common.{ap}
use Rattle.rv32i.proofs.Moving.{the_decoding}
use Rattle.rv32i.proofs.Unique.{one_word}
use Rattle.rv32i.specs.Encoding.{Encodes, IsDecoding}
use Rattle.rv32i.specs.Texts.{HasText, IsTextOf, Coded, Illegal, is_plain_fence, set_text, with_two, word_text}
use Rattle.rv32i.specs.declared.instr.Instr.{Instr}
use Rattle.rv32i.specs.declared.instr.Instr.TheVariants.{Lui, Auipc, Jal, Jalr, Beq, Bne, Blt, Bge, Bltu, Bgeu, Lb, Lh}
use Rattle.rv32i.specs.declared.instr.Instr.TheVariants.{Lw, Lbu, Lhu, Sb, Sh, Sw, Addi, Slti, Sltiu, Xori, Ori, Andi}
use Rattle.rv32i.specs.declared.instr.Instr.TheVariants.{Slli, Srli, Srai, Add, Sub, Sll, Slt, Sltu, Xor, Srl, Sra, Or}
use Rattle.rv32i.specs.declared.instr.Instr.TheVariants.{And, Fence, Ecall, Ebreak}

-- a text of an instruction at an address
pub record InstructionText (i : Instr) (pc : ℕ) : Type 0 where
  pub text : List ℕ
  pub is : HasText i pc text

-- a text of a word at an address
pub record WordText (word pc : ℕ) : Type 0 where
  pub text : List ℕ
  pub is : IsTextOf word pc text

-- of a FENCE: the statement that is assembled to it, if there is one, else its word
fence_text : (test : Bool) (statement : List ℕ) (word : ℕ) (Q : ℕ → Type 0) → ((other : ℕ) → Q other → word ≡ other) →
    (text : List ℕ) × MatchBool test (text ≡ statement) ((other : ℕ) → Q other → text ≡ word_text other)
fence_text true statement word Q same = (statement, refl)
fence_text false statement word Q same = (word_text word, λ other q. ap word_text (same other q))

-- of each instruction
text_of : (i : Instr) (word pc : ℕ) → Encodes i word → InstructionText i pc
text_of (Lui rd imm) word pc e = record { text = _; is = refl }
text_of (Auipc rd imm) word pc e = record { text = _; is = refl }
text_of (Jal rd offset) word pc e = record { text = _; is = refl }
text_of (Jalr rd rs1 imm) word pc e = record { text = _; is = refl }
text_of (Beq rs1 rs2 offset) word pc e = record { text = _; is = refl }
text_of (Bne rs1 rs2 offset) word pc e = record { text = _; is = refl }
text_of (Blt rs1 rs2 offset) word pc e = record { text = _; is = refl }
text_of (Bge rs1 rs2 offset) word pc e = record { text = _; is = refl }
text_of (Bltu rs1 rs2 offset) word pc e = record { text = _; is = refl }
text_of (Bgeu rs1 rs2 offset) word pc e = record { text = _; is = refl }
text_of (Lb rd rs1 imm) word pc e = record { text = _; is = refl }
text_of (Lh rd rs1 imm) word pc e = record { text = _; is = refl }
text_of (Lw rd rs1 imm) word pc e = record { text = _; is = refl }
text_of (Lbu rd rs1 imm) word pc e = record { text = _; is = refl }
text_of (Lhu rd rs1 imm) word pc e = record { text = _; is = refl }
text_of (Sb rs1 rs2 imm) word pc e = record { text = _; is = refl }
text_of (Sh rs1 rs2 imm) word pc e = record { text = _; is = refl }
text_of (Sw rs1 rs2 imm) word pc e = record { text = _; is = refl }
text_of (Addi rd rs1 imm) word pc e = record { text = _; is = refl }
text_of (Slti rd rs1 imm) word pc e = record { text = _; is = refl }
text_of (Sltiu rd rs1 imm) word pc e = record { text = _; is = refl }
text_of (Xori rd rs1 imm) word pc e = record { text = _; is = refl }
text_of (Ori rd rs1 imm) word pc e = record { text = _; is = refl }
text_of (Andi rd rs1 imm) word pc e = record { text = _; is = refl }
text_of (Slli rd rs1 shamt) word pc e = record { text = _; is = refl }
text_of (Srli rd rs1 shamt) word pc e = record { text = _; is = refl }
text_of (Srai rd rs1 shamt) word pc e = record { text = _; is = refl }
text_of (Add rd rs1 rs2) word pc e = record { text = _; is = refl }
text_of (Sub rd rs1 rs2) word pc e = record { text = _; is = refl }
text_of (Sll rd rs1 rs2) word pc e = record { text = _; is = refl }
text_of (Slt rd rs1 rs2) word pc e = record { text = _; is = refl }
text_of (Sltu rd rs1 rs2) word pc e = record { text = _; is = refl }
text_of (Xor rd rs1 rs2) word pc e = record { text = _; is = refl }
text_of (Srl rd rs1 rs2) word pc e = record { text = _; is = refl }
text_of (Sra rd rs1 rs2) word pc e = record { text = _; is = refl }
text_of (Or rd rs1 rs2) word pc e = record { text = _; is = refl }
text_of (And rd rs1 rs2) word pc e = record { text = _; is = refl }
text_of (Fence fm before after rd rs1) word pc e =
    let found = fence_text (is_plain_fence fm before after rd rs1)
    (with_two (codes "fence") (set_text before) (set_text after)) word (Encodes (Fence fm before after rd rs1))
    (λ other f. one_word (Fence fm before after rd rs1) word other e f) in
    record { text = found.0; is = found.1 }
text_of Ecall word pc e = record { text = _; is = refl }
text_of Ebreak word pc e = record { text = _; is = refl }

-- of each word, its only text
text_by : (word pc : ℕ) (instr : Option Instr) → IsDecoding word instr → WordText word pc
text_by word pc None none = record { text = word_text word; is = Illegal none refl }
text_by word pc (Some i) e = let found = text_of i word pc e in record { text = found.text; is = Coded i e found.is }

pub the_text : (word pc : ℕ) → WordText word pc
the_text word pc = let decoding = the_decoding word in text_by word pc decoding.instr decoding.is

-- the disassembly of a word at an address
unfoldable pub text_at : ℕ → ℕ → List ℕ
text_at word pc = (the_text word pc).text

-- It is the one by the rules.
pub text_at-is : (word pc : ℕ) → IsTextOf word pc (text_at word pc)
unfolding text_at
text_at-is word pc = (the_text word pc).is
