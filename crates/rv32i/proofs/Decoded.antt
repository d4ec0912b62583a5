-- What a word decodes to as a function, for the proofs alone: the instruction that it encodes, if there is one, is the
-- one that this function finds. So there is at most one, and a word at which it finds none is illegal.
use Rattle.rv32i.proofs.Common.{Add, Addi, And, Andi, ap, Auipc, Beq, Bge, Bgeu, Blt, Bltu, Bne, Bool, cond, Ebreak, Ecall, Encodes, eqb, eqb-true, false, Fence, Instr, IsIllegal, Jal, Jalr, Lb, Lbu, Lh, Lhu, lit<, Lui, Lw, None, Option, Or, Ori, refl, Sb, Sh, Sll, Slli, Slt, Slti, Sltiu, Sltu, Some, Sra, Srai, Srl, Srli, Sub, subst, Sw, true, Xor, Xori, ℕ, ◌%◌, ◌*◌, ◌+◌, ◌-◌, ◌/◌, ◌<◌, ◌^◌, ◌≡◌}
use Rattle.rv32i.proofs.Words.{r_type, i_type, s_type, b_type, u_type, j_type, fence_type, r_parts, i_parts, s_parts, b_parts, u_parts, j_parts, fence_parts}

-- The cases of each opcode, by funct3 and then by funct7.

abbrev branch_by : ℕ → ℕ → ℕ → ℕ → Option Instr
branch_by f rs1 rs2 offset =
    cond (eqb f 0) (Some (Beq rs1 rs2 offset))
    (cond (eqb f 1) (Some (Bne rs1 rs2 offset))
    (cond (eqb f 4) (Some (Blt rs1 rs2 offset))
    (cond (eqb f 5) (Some (Bge rs1 rs2 offset))
    (cond (eqb f 6) (Some (Bltu rs1 rs2 offset)) (cond (eqb f 7) (Some (Bgeu rs1 rs2 offset)) (None))))))

abbrev load_by : ℕ → ℕ → ℕ → ℕ → Option Instr
load_by f rd rs1 imm =
    cond (eqb f 0) (Some (Lb rd rs1 imm))
    (cond (eqb f 1) (Some (Lh rd rs1 imm))
    (cond (eqb f 2) (Some (Lw rd rs1 imm)) (cond (eqb f 4) (Some (Lbu rd rs1 imm)) (cond (eqb f 5) (Some (Lhu rd rs1 imm)) (None)))))

abbrev store_by : ℕ → ℕ → ℕ → ℕ → Option Instr
store_by f rs1 rs2 imm =
    cond (eqb f 0) (Some (Sb rs1 rs2 imm)) (cond (eqb f 1) (Some (Sh rs1 rs2 imm)) (cond (eqb f 2) (Some (Sw rs1 rs2 imm)) (None)))

abbrev jalr_by : ℕ → ℕ → ℕ → ℕ → Option Instr
jalr_by f rd rs1 imm = cond (eqb f 0) (Some (Jalr rd rs1 imm)) None

abbrev immediate_by : ℕ → ℕ → ℕ → ℕ → ℕ → ℕ → Option Instr
immediate_by f g rd rs1 imm shamt =
    cond (eqb f 0) (Some (Addi rd rs1 imm))
    (cond (eqb f 2) (Some (Slti rd rs1 imm))
    (cond (eqb f 3) (Some (Sltiu rd rs1 imm))
    (cond (eqb f 4) (Some (Xori rd rs1 imm))
    (cond (eqb f 6) (Some (Ori rd rs1 imm))
    (cond (eqb f 7) (Some (Andi rd rs1 imm))
    (cond (eqb f 1) (cond (eqb g 0) (Some (Slli rd rs1 shamt)) None)
    (cond (eqb f 5) (cond (eqb g 0) (Some (Srli rd rs1 shamt)) (cond (eqb g 32) (Some (Srai rd rs1 shamt)) None)) (None))))))))

abbrev plain_by : ℕ → ℕ → ℕ → ℕ → Option Instr
plain_by f rd rs1 rs2 =
    cond (eqb f 0) (Some (Add rd rs1 rs2))
    (cond (eqb f 1) (Some (Sll rd rs1 rs2))
    (cond (eqb f 2) (Some (Slt rd rs1 rs2))
    (cond (eqb f 3) (Some (Sltu rd rs1 rs2))
    (cond (eqb f 4) (Some (Xor rd rs1 rs2))
    (cond (eqb f 5) (Some (Srl rd rs1 rs2)) (cond (eqb f 6) (Some (Or rd rs1 rs2)) (cond (eqb f 7) (Some (And rd rs1 rs2)) (None))))))))

abbrev other_by : ℕ → ℕ → ℕ → ℕ → Option Instr
other_by f rd rs1 rs2 = cond (eqb f 0) (Some (Sub rd rs1 rs2)) (cond (eqb f 5) (Some (Sra rd rs1 rs2)) (None))

abbrev register_by : ℕ → ℕ → ℕ → ℕ → ℕ → Option Instr
register_by f g rd rs1 rs2 = cond (eqb g 0) (plain_by f rd rs1 rs2) (cond (eqb g 32) (other_by f rd rs1 rs2) None)

abbrev fence_by : ℕ → ℕ → ℕ → ℕ → ℕ → ℕ → Option Instr
fence_by f fm before after rd rs1 = cond (eqb f 0) (Some (Fence fm before after rd rs1)) None

abbrev system_by : ℕ → Option Instr
system_by word = cond (eqb word 0x73) (Some Ecall) (cond (eqb word 0x100073) (Some Ebreak) None)

-- By the opcode o, with the word's other fields.
abbrev by_fields : (o f g d s t u i k b j m p q word : ℕ) → Option Instr
by_fields o f g d s t u i k b j m p q word =
    cond (eqb o 55) (Some (Lui d u))
    (cond (eqb o 23) (Some (Auipc d u))
    (cond (eqb o 111) (Some (Jal d j))
    (cond (eqb o 103) (jalr_by f d s i)
    (cond (eqb o 99) (branch_by f s t b)
    (cond (eqb o 3) (load_by f d s i)
    (cond (eqb o 35) (store_by f s t k)
    (cond (eqb o 19) (immediate_by f g d s i t)
    (cond (eqb o 51) (register_by f g d s t) (cond (eqb o 15) (fence_by f m p q d s) (cond (eqb o 115) (system_by word) (None)))))))))))

abbrev pub decoded : ℕ → Option Instr
decoded word =
    by_fields (word % 2 ^ 7) (word / 2 ^ 12 % 2 ^ 3) (word / 2 ^ 25) (word / 2 ^ 7 % 2 ^ 5) (word / 2 ^ 15 % 2 ^ 5) (word / 2 ^ 20 % 2 ^ 5)
    (word / 2 ^ 12 * 2 ^ 12) (word / 2 ^ 31 * (2 ^ 32 - 2 ^ 11) + word / 2 ^ 20 % 2 ^ 11)
    (word / 2 ^ 31 * (2 ^ 32 - 2 ^ 11) + word / 2 ^ 25 % 2 ^ 6 * 2 ^ 5 + word / 2 ^ 7 % 2 ^ 5)
    (word / 2 ^ 31 * (2 ^ 32 - 2 ^ 12) + word / 2 ^ 7 % 2 * 2 ^ 11 + word / 2 ^ 25 % 2 ^ 6 * 2 ^ 5 + word / 2 ^ 8 % 2 ^ 4 * 2)
    (word / 2 ^ 31 * (2 ^ 32 - 2 ^ 20) + word / 2 ^ 12 % 2 ^ 8 * 2 ^ 12 + word / 2 ^ 20 % 2 * 2 ^ 11 + word / 2 ^ 21 % 2 ^ 10 * 2)
    (word / 2 ^ 28) (word / 2 ^ 24 % 2 ^ 4) (word / 2 ^ 20 % 2 ^ 4) word

-- An instruction that a word encodes is found.
pub finds : (i : Instr) (word : ℕ) → Encodes i word → decoded word ≡ Some i
finds (Lui rd imm) word e = let p = u_parts 55 rd imm word (lit< tt) e in rw (p.opcode_is, p.rd_is, p.imm_is) refl
finds (Auipc rd imm) word e = let p = u_parts 23 rd imm word (lit< tt) e in rw (p.opcode_is, p.rd_is, p.imm_is) refl
finds (Jal rd offset) word e = let p = j_parts 111 rd offset word (lit< tt) e in rw (p.opcode_is, p.rd_is, p.offset_is) refl
finds (Jalr rd rs1 imm) word e =
    let p = i_parts 103 0 rd rs1 imm word (lit< tt) (lit< tt) e in rw (p.opcode_is, p.funct3_is, p.rd_is, p.rs1_is, p.imm_is) refl
finds (Beq rs1 rs2 offset) word e =
    let p = b_parts 99 0 rs1 rs2 offset word (lit< tt) (lit< tt) e in rw (p.opcode_is, p.funct3_is, p.rs1_is, p.rs2_is, p.offset_is) refl
finds (Bne rs1 rs2 offset) word e =
    let p = b_parts 99 1 rs1 rs2 offset word (lit< tt) (lit< tt) e in rw (p.opcode_is, p.funct3_is, p.rs1_is, p.rs2_is, p.offset_is) refl
finds (Blt rs1 rs2 offset) word e =
    let p = b_parts 99 4 rs1 rs2 offset word (lit< tt) (lit< tt) e in rw (p.opcode_is, p.funct3_is, p.rs1_is, p.rs2_is, p.offset_is) refl
finds (Bge rs1 rs2 offset) word e =
    let p = b_parts 99 5 rs1 rs2 offset word (lit< tt) (lit< tt) e in rw (p.opcode_is, p.funct3_is, p.rs1_is, p.rs2_is, p.offset_is) refl
finds (Bltu rs1 rs2 offset) word e =
    let p = b_parts 99 6 rs1 rs2 offset word (lit< tt) (lit< tt) e in rw (p.opcode_is, p.funct3_is, p.rs1_is, p.rs2_is, p.offset_is) refl
finds (Bgeu rs1 rs2 offset) word e =
    let p = b_parts 99 7 rs1 rs2 offset word (lit< tt) (lit< tt) e in rw (p.opcode_is, p.funct3_is, p.rs1_is, p.rs2_is, p.offset_is) refl
finds (Lb rd rs1 imm) word e =
    let p = i_parts 3 0 rd rs1 imm word (lit< tt) (lit< tt) e in rw (p.opcode_is, p.funct3_is, p.rd_is, p.rs1_is, p.imm_is) refl
finds (Lh rd rs1 imm) word e =
    let p = i_parts 3 1 rd rs1 imm word (lit< tt) (lit< tt) e in rw (p.opcode_is, p.funct3_is, p.rd_is, p.rs1_is, p.imm_is) refl
finds (Lw rd rs1 imm) word e =
    let p = i_parts 3 2 rd rs1 imm word (lit< tt) (lit< tt) e in rw (p.opcode_is, p.funct3_is, p.rd_is, p.rs1_is, p.imm_is) refl
finds (Lbu rd rs1 imm) word e =
    let p = i_parts 3 4 rd rs1 imm word (lit< tt) (lit< tt) e in rw (p.opcode_is, p.funct3_is, p.rd_is, p.rs1_is, p.imm_is) refl
finds (Lhu rd rs1 imm) word e =
    let p = i_parts 3 5 rd rs1 imm word (lit< tt) (lit< tt) e in rw (p.opcode_is, p.funct3_is, p.rd_is, p.rs1_is, p.imm_is) refl
finds (Sb rs1 rs2 imm) word e =
    let p = s_parts 35 0 rs1 rs2 imm word (lit< tt) (lit< tt) e in rw (p.opcode_is, p.funct3_is, p.rs1_is, p.rs2_is, p.imm_is) refl
finds (Sh rs1 rs2 imm) word e =
    let p = s_parts 35 1 rs1 rs2 imm word (lit< tt) (lit< tt) e in rw (p.opcode_is, p.funct3_is, p.rs1_is, p.rs2_is, p.imm_is) refl
finds (Sw rs1 rs2 imm) word e =
    let p = s_parts 35 2 rs1 rs2 imm word (lit< tt) (lit< tt) e in rw (p.opcode_is, p.funct3_is, p.rs1_is, p.rs2_is, p.imm_is) refl
finds (Addi rd rs1 imm) word e =
    let p = i_parts 19 0 rd rs1 imm word (lit< tt) (lit< tt) e in rw (p.opcode_is, p.funct3_is, p.rd_is, p.rs1_is, p.imm_is) refl
finds (Slti rd rs1 imm) word e =
    let p = i_parts 19 2 rd rs1 imm word (lit< tt) (lit< tt) e in rw (p.opcode_is, p.funct3_is, p.rd_is, p.rs1_is, p.imm_is) refl
finds (Sltiu rd rs1 imm) word e =
    let p = i_parts 19 3 rd rs1 imm word (lit< tt) (lit< tt) e in rw (p.opcode_is, p.funct3_is, p.rd_is, p.rs1_is, p.imm_is) refl
finds (Xori rd rs1 imm) word e =
    let p = i_parts 19 4 rd rs1 imm word (lit< tt) (lit< tt) e in rw (p.opcode_is, p.funct3_is, p.rd_is, p.rs1_is, p.imm_is) refl
finds (Ori rd rs1 imm) word e =
    let p = i_parts 19 6 rd rs1 imm word (lit< tt) (lit< tt) e in rw (p.opcode_is, p.funct3_is, p.rd_is, p.rs1_is, p.imm_is) refl
finds (Andi rd rs1 imm) word e =
    let p = i_parts 19 7 rd rs1 imm word (lit< tt) (lit< tt) e in rw (p.opcode_is, p.funct3_is, p.rd_is, p.rs1_is, p.imm_is) refl
finds (Slli rd rs1 shamt) word e =
    let p = r_parts 19 1 0 rd rs1 shamt word (lit< tt) (lit< tt) e in
    rw (p.opcode_is, p.funct3_is, p.funct7_is, p.rd_is, p.rs1_is, p.rs2_is) refl
finds (Srli rd rs1 shamt) word e =
    let p = r_parts 19 5 0 rd rs1 shamt word (lit< tt) (lit< tt) e in
    rw (p.opcode_is, p.funct3_is, p.funct7_is, p.rd_is, p.rs1_is, p.rs2_is) refl
finds (Srai rd rs1 shamt) word e =
    let p = r_parts 19 5 32 rd rs1 shamt word (lit< tt) (lit< tt) e in
    rw (p.opcode_is, p.funct3_is, p.funct7_is, p.rd_is, p.rs1_is, p.rs2_is) refl
finds (Add rd rs1 rs2) word e =
    let p = r_parts 51 0 0 rd rs1 rs2 word (lit< tt) (lit< tt) e in
    rw (p.opcode_is, p.funct3_is, p.funct7_is, p.rd_is, p.rs1_is, p.rs2_is) refl
finds (Sub rd rs1 rs2) word e =
    let p = r_parts 51 0 32 rd rs1 rs2 word (lit< tt) (lit< tt) e in
    rw (p.opcode_is, p.funct3_is, p.funct7_is, p.rd_is, p.rs1_is, p.rs2_is) refl
finds (Sll rd rs1 rs2) word e =
    let p = r_parts 51 1 0 rd rs1 rs2 word (lit< tt) (lit< tt) e in
    rw (p.opcode_is, p.funct3_is, p.funct7_is, p.rd_is, p.rs1_is, p.rs2_is) refl
finds (Slt rd rs1 rs2) word e =
    let p = r_parts 51 2 0 rd rs1 rs2 word (lit< tt) (lit< tt) e in
    rw (p.opcode_is, p.funct3_is, p.funct7_is, p.rd_is, p.rs1_is, p.rs2_is) refl
finds (Sltu rd rs1 rs2) word e =
    let p = r_parts 51 3 0 rd rs1 rs2 word (lit< tt) (lit< tt) e in
    rw (p.opcode_is, p.funct3_is, p.funct7_is, p.rd_is, p.rs1_is, p.rs2_is) refl
finds (Xor rd rs1 rs2) word e =
    let p = r_parts 51 4 0 rd rs1 rs2 word (lit< tt) (lit< tt) e in
    rw (p.opcode_is, p.funct3_is, p.funct7_is, p.rd_is, p.rs1_is, p.rs2_is) refl
finds (Srl rd rs1 rs2) word e =
    let p = r_parts 51 5 0 rd rs1 rs2 word (lit< tt) (lit< tt) e in
    rw (p.opcode_is, p.funct3_is, p.funct7_is, p.rd_is, p.rs1_is, p.rs2_is) refl
finds (Sra rd rs1 rs2) word e =
    let p = r_parts 51 5 32 rd rs1 rs2 word (lit< tt) (lit< tt) e in
    rw (p.opcode_is, p.funct3_is, p.funct7_is, p.rd_is, p.rs1_is, p.rs2_is) refl
finds (Or rd rs1 rs2) word e =
    let p = r_parts 51 6 0 rd rs1 rs2 word (lit< tt) (lit< tt) e in
    rw (p.opcode_is, p.funct3_is, p.funct7_is, p.rd_is, p.rs1_is, p.rs2_is) refl
finds (And rd rs1 rs2) word e =
    let p = r_parts 51 7 0 rd rs1 rs2 word (lit< tt) (lit< tt) e in
    rw (p.opcode_is, p.funct3_is, p.funct7_is, p.rd_is, p.rs1_is, p.rs2_is) refl
finds (Fence fm before after rd rs1) word e =
    let p = fence_parts 15 0 fm before after rd rs1 word (lit< tt) (lit< tt) e in
    rw (p.opcode_is, p.funct3_is, p.fm_is, p.before_is, p.after_is, p.rd_is, p.rs1_is) refl
finds Ecall word e = ap decoded e
finds Ebreak word e = ap decoded e

-- A word at which nothing is found encodes nothing.
pub illegal : (word : ℕ) → decoded word ≡ None → IsIllegal word
illegal word none i e = let found = finds i word e in cc

-- ---- the other way: what is found is encoded, where the word has 32 bits

-- what is found, if something is, encodes the word
abbrev pub Sound : ℕ → Option Instr → Type 0
Sound word found = (i : Instr) → found ≡ Some i → Encodes i word

by_test : (word n k : ℕ) (x y : Option Instr) → (n ≡ k → Sound word x) → Sound word y → Sound word (cond (eqb n k) x y)
by_test word n k x y is isnt = by_case (eqb n k) refl where
  by_case : (b : Bool) → eqb n k ≡ b → Sound word (cond b x y)
  by_case true e = is (eqb-true n k e)
  by_case false e = isnt

this : (word : ℕ) (j : Instr) → Encodes j word → Sound word (Some j)
this word j h i e = subst (λ k. Encodes k word) (let same : j ≡ i = cc in same) h

nothing : (word : ℕ) → Sound word None
nothing word i e = absurd (cc)

module _ (word : ℕ) (h : word < 2 ^ 32) where
  branches : word % 2 ^ 7 ≡ 99
      → Sound word (branch_by (word / 2 ^ 12 % 2 ^ 3) (word / 2 ^ 15 % 2 ^ 5) (word / 2 ^ 20 % 2 ^ 5) (word / 2 ^ 31 * (2 ^ 32 - 2 ^ 12) + word / 2 ^ 7 % 2 * 2 ^ 11 + word / 2 ^ 25 % 2 ^ 6 * 2 ^ 5 + word / 2 ^ 8 % 2 ^ 4 * 2))
  branches o =
      by_test word (word / 2 ^ 12 % 2 ^ 3) 0 _ _ (λ f. this word _ (b_type 99 0 _ _ _ word h o f refl refl refl))
      (by_test word (word / 2 ^ 12 % 2 ^ 3) 1 _ _ (λ f. this word _ (b_type 99 1 _ _ _ word h o f refl refl refl))
      (by_test word (word / 2 ^ 12 % 2 ^ 3) 4 _ _ (λ f. this word _ (b_type 99 4 _ _ _ word h o f refl refl refl))
      (by_test word (word / 2 ^ 12 % 2 ^ 3) 5 _ _ (λ f. this word _ (b_type 99 5 _ _ _ word h o f refl refl refl))
      (by_test word (word / 2 ^ 12 % 2 ^ 3) 6 _ _ (λ f. this word _ (b_type 99 6 _ _ _ word h o f refl refl refl))
      (by_test word (word / 2 ^ 12 % 2 ^ 3) 7 _ _ (λ f. this word _ (b_type 99 7 _ _ _ word h o f refl refl refl)) (nothing word))))))

  loads : word % 2 ^ 7 ≡ 3
      → Sound word (load_by (word / 2 ^ 12 % 2 ^ 3) (word / 2 ^ 7 % 2 ^ 5) (word / 2 ^ 15 % 2 ^ 5) (word / 2 ^ 31 * (2 ^ 32 - 2 ^ 11) + word / 2 ^ 20 % 2 ^ 11))
  loads o =
      by_test word (word / 2 ^ 12 % 2 ^ 3) 0 _ _ (λ f. this word _ (i_type 3 0 _ _ _ word h o f refl refl refl))
      (by_test word (word / 2 ^ 12 % 2 ^ 3) 1 _ _ (λ f. this word _ (i_type 3 1 _ _ _ word h o f refl refl refl))
      (by_test word (word / 2 ^ 12 % 2 ^ 3) 2 _ _ (λ f. this word _ (i_type 3 2 _ _ _ word h o f refl refl refl))
      (by_test word (word / 2 ^ 12 % 2 ^ 3) 4 _ _ (λ f. this word _ (i_type 3 4 _ _ _ word h o f refl refl refl))
      (by_test word (word / 2 ^ 12 % 2 ^ 3) 5 _ _ (λ f. this word _ (i_type 3 5 _ _ _ word h o f refl refl refl)) (nothing word)))))

  stores : word % 2 ^ 7 ≡ 35
      → Sound word (store_by (word / 2 ^ 12 % 2 ^ 3) (word / 2 ^ 15 % 2 ^ 5) (word / 2 ^ 20 % 2 ^ 5) (word / 2 ^ 31 * (2 ^ 32 - 2 ^ 11) + word / 2 ^ 25 % 2 ^ 6 * 2 ^ 5 + word / 2 ^ 7 % 2 ^ 5))
  stores o =
      by_test word (word / 2 ^ 12 % 2 ^ 3) 0 _ _ (λ f. this word _ (s_type 35 0 _ _ _ word h o f refl refl refl))
      (by_test word (word / 2 ^ 12 % 2 ^ 3) 1 _ _ (λ f. this word _ (s_type 35 1 _ _ _ word h o f refl refl refl))
      (by_test word (word / 2 ^ 12 % 2 ^ 3) 2 _ _ (λ f. this word _ (s_type 35 2 _ _ _ word h o f refl refl refl)) (nothing word)))

  jumps : word % 2 ^ 7 ≡ 103
      → Sound word (jalr_by (word / 2 ^ 12 % 2 ^ 3) (word / 2 ^ 7 % 2 ^ 5) (word / 2 ^ 15 % 2 ^ 5) (word / 2 ^ 31 * (2 ^ 32 - 2 ^ 11) + word / 2 ^ 20 % 2 ^ 11))
  jumps o = by_test word (word / 2 ^ 12 % 2 ^ 3) 0 _ _ (λ f. this word _ (i_type 103 0 _ _ _ word h o f refl refl refl)) (nothing word)

  immediates : word % 2 ^ 7 ≡ 19
      → Sound word (immediate_by (word / 2 ^ 12 % 2 ^ 3) (word / 2 ^ 25) (word / 2 ^ 7 % 2 ^ 5) (word / 2 ^ 15 % 2 ^ 5) (word / 2 ^ 31 * (2 ^ 32 - 2 ^ 11) + word / 2 ^ 20 % 2 ^ 11) (word / 2 ^ 20 % 2 ^ 5))
  immediates o =
      by_test word (word / 2 ^ 12 % 2 ^ 3) 0 _ _ (λ f. this word _ (i_type 19 0 _ _ _ word h o f refl refl refl))
      (by_test word (word / 2 ^ 12 % 2 ^ 3) 2 _ _ (λ f. this word _ (i_type 19 2 _ _ _ word h o f refl refl refl))
      (by_test word (word / 2 ^ 12 % 2 ^ 3) 3 _ _ (λ f. this word _ (i_type 19 3 _ _ _ word h o f refl refl refl))
      (by_test word (word / 2 ^ 12 % 2 ^ 3) 4 _ _ (λ f. this word _ (i_type 19 4 _ _ _ word h o f refl refl refl))
      (by_test word (word / 2 ^ 12 % 2 ^ 3) 6 _ _ (λ f. this word _ (i_type 19 6 _ _ _ word h o f refl refl refl))
      (by_test word (word / 2 ^ 12 % 2 ^ 3) 7 _ _ (λ f. this word _ (i_type 19 7 _ _ _ word h o f refl refl refl))
      (by_test word (word / 2 ^ 12 % 2 ^ 3) 1 _ _
      (λ f. by_test word (word / 2 ^ 25) 0 _ _ (λ g. this word _ (r_type 19 1 0 _ _ _ word o f g refl refl refl)) (nothing word))
      (by_test word (word / 2 ^ 12 % 2 ^ 3) 5 _ _
      (λ f. by_test word (word / 2 ^ 25) 0 _ _ (λ g. this word _ (r_type 19 5 0 _ _ _ word o f g refl refl refl))
      (by_test word (word / 2 ^ 25) 32 _ _ (λ g. this word _ (r_type 19 5 32 _ _ _ word o f g refl refl refl)) (nothing word)))
      (nothing word))))))))

  registers : word % 2 ^ 7 ≡ 51
      → Sound word (register_by (word / 2 ^ 12 % 2 ^ 3) (word / 2 ^ 25) (word / 2 ^ 7 % 2 ^ 5) (word / 2 ^ 15 % 2 ^ 5) (word / 2 ^ 20 % 2 ^ 5))
  registers o =
      by_test word (word / 2 ^ 25) 0 _ _
      (λ g. by_test word (word / 2 ^ 12 % 2 ^ 3) 0 _ _ (λ f. this word _ (r_type 51 0 0 _ _ _ word o f g refl refl refl))
      (by_test word (word / 2 ^ 12 % 2 ^ 3) 1 _ _ (λ f. this word _ (r_type 51 1 0 _ _ _ word o f g refl refl refl))
      (by_test word (word / 2 ^ 12 % 2 ^ 3) 2 _ _ (λ f. this word _ (r_type 51 2 0 _ _ _ word o f g refl refl refl))
      (by_test word (word / 2 ^ 12 % 2 ^ 3) 3 _ _ (λ f. this word _ (r_type 51 3 0 _ _ _ word o f g refl refl refl))
      (by_test word (word / 2 ^ 12 % 2 ^ 3) 4 _ _ (λ f. this word _ (r_type 51 4 0 _ _ _ word o f g refl refl refl))
      (by_test word (word / 2 ^ 12 % 2 ^ 3) 5 _ _ (λ f. this word _ (r_type 51 5 0 _ _ _ word o f g refl refl refl))
      (by_test word (word / 2 ^ 12 % 2 ^ 3) 6 _ _ (λ f. this word _ (r_type 51 6 0 _ _ _ word o f g refl refl refl))
      (by_test word (word / 2 ^ 12 % 2 ^ 3) 7 _ _ (λ f. this word _ (r_type 51 7 0 _ _ _ word o f g refl refl refl)) (nothing word)))))))))
      (by_test word (word / 2 ^ 25) 32 _ _
      (λ g. by_test word (word / 2 ^ 12 % 2 ^ 3) 0 _ _ (λ f. this word _ (r_type 51 0 32 _ _ _ word o f g refl refl refl))
      (by_test word (word / 2 ^ 12 % 2 ^ 3) 5 _ _ (λ f. this word _ (r_type 51 5 32 _ _ _ word o f g refl refl refl)) (nothing word)))
      (nothing word))

  fences : word % 2 ^ 7 ≡ 15
      → Sound word (fence_by (word / 2 ^ 12 % 2 ^ 3) (word / 2 ^ 28) (word / 2 ^ 24 % 2 ^ 4) (word / 2 ^ 20 % 2 ^ 4) (word / 2 ^ 7 % 2 ^ 5) (word / 2 ^ 15 % 2 ^ 5))
  fences o =
      by_test word (word / 2 ^ 12 % 2 ^ 3) 0 _ _ (λ f. this word _ (fence_type 15 0 _ _ _ _ _ word h o f refl refl refl refl refl))
      (nothing word)

  systems : Sound word (system_by word)
  systems = by_test word word 0x73 _ _ (λ e. this word Ecall e) (by_test word word 0x100073 _ _ (λ e. this word Ebreak e) (nothing word))

  pub sound : Sound word (decoded word)
  sound =
      by_test word (word % 2 ^ 7) 55 _ _ (λ o. this word _ (u_type 55 _ _ word h o refl refl))
      (by_test word (word % 2 ^ 7) 23 _ _ (λ o. this word _ (u_type 23 _ _ word h o refl refl))
      (by_test word (word % 2 ^ 7) 111 _ _ (λ o. this word _ (j_type 111 _ _ word h o refl refl))
      (by_test word (word % 2 ^ 7) 103 _ _ (λ o. jumps o)
      (by_test word (word % 2 ^ 7) 99 _ _ (λ o. branches o)
      (by_test word (word % 2 ^ 7) 3 _ _ (λ o. loads o)
      (by_test word (word % 2 ^ 7) 35 _ _ (λ o. stores o)
      (by_test word (word % 2 ^ 7) 19 _ _ (λ o. immediates o)
      (by_test word (word % 2 ^ 7) 51 _ _ (λ o. registers o)
      (by_test word (word % 2 ^ 7) 15 _ _ (λ o. fences o) (by_test word (word % 2 ^ 7) 115 _ _ (λ o. systems) (nothing word)))))))))))
