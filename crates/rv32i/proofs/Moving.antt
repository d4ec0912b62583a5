-- Each word has a decoding, and each machine a move.
use Rattle.rv32i.proofs.Common.{Add, Addi, And, Andi, ap, arith, Auipc, Beq, Bge, Bgeu, Blt, Bltu, Bne, Bool, branches, BType, calls, cond, Ebreak, Ecall, Effect, effect_of, Encodes, eqb, Err, false, Fence, FenceType, fetch_fault, get_or-set_other, gives, HasDecoding, HasMove, Illegal, Instr, is_ok, IsDecoding, IsIllegal, IType, Jal, Jalr, JType, JumpMisaligned, jumps, Lb, Lbu, Lh, Lhu, linked, List, lit<, loads_unless, lt-ltb, ltb, ltb-true, Lui, Lw, Machine, MatchResult, MemFault, Misaligned, MovesAnswer, nat_tests, NoMemory, None, Ok, Option, Or, Ori, Outside, refl, Result, retired, RType, Sb, Sh, slice_index, slice_set, Sll, Slli, Slt, Slti, Sltiu, Sltu, Some, Sra, Srai, Srl, Srli, stores_unless, SType, Sub, sum, Sw, trapped, true, UType, value, with_register, word_at, Xor, Xori, ℕ, ◌%◌, ◌*◌, ◌/◌, ◌<◌, ◌^◌, ◌∙◌, ◌≡◌}
use Rattle.rv32i.proofs.Decoded.{decoded, illegal, sound}
use Rattle.rv32i.proofs.Keeps.{step_answers}
use Rattle.rv32i.proofs.Unique.{one_instruction}

-- ---- a word that encodes an instruction has 32 bits

r_below : (opcode funct3 funct7 rd rs1 rs2 word : ℕ) → opcode < 2 ^ 7 → funct3 < 2 ^ 3 → funct7 < 2 ^ 7
    → RType opcode funct3 funct7 rd rs1 rs2 word → word < 2 ^ 32
r_below opcode funct3 funct7 rd rs1 rs2 word o f g t =
    let d = t.rd_fits in let s = t.rs1_fits in let u = t.rs2_fits in let e = t.sum in omega (arith, o, f, g, d, s, u, e)

i_below : (opcode funct3 rd rs1 imm word : ℕ) → opcode < 2 ^ 7 → funct3 < 2 ^ 3 → IType opcode funct3 rd rs1 imm word → word < 2 ^ 32
i_below opcode funct3 rd rs1 imm word o f t =
    let d = t.rd_fits in let s = t.rs1_fits in let l = t.low_fits in let g = t.sign_fits in let e = t.sum in
    omega (arith, o, f, d, s, l, g, e)

s_below : (opcode funct3 rs1 rs2 imm word : ℕ) → opcode < 2 ^ 7 → funct3 < 2 ^ 3 → SType opcode funct3 rs1 rs2 imm word → word < 2 ^ 32
s_below opcode funct3 rs1 rs2 imm word o f t =
    let d = t.rs2_fits in let s = t.rs1_fits in let l = t.low_fits in let k = t.high_fits in let g = t.sign_fits in let e = t.sum in
    omega (arith, o, f, d, s, l, k, g, e)

b_below : (opcode funct3 rs1 rs2 offset word : ℕ) → opcode < 2 ^ 7 → funct3 < 2 ^ 3 → BType opcode funct3 rs1 rs2 offset word
    → word < 2 ^ 32
b_below opcode funct3 rs1 rs2 offset word o f t =
    let d = t.rs2_fits in let s = t.rs1_fits in let l = t.low_fits in let k = t.high_fits in let b = t.bit11_fits in let g = t.sign_fits in
    let e = t.sum in omega (arith, o, f, d, s, l, k, b, g, e)

u_below : (opcode rd imm word : ℕ) → opcode < 2 ^ 7 → UType opcode rd imm word → word < 2 ^ 32
u_below opcode rd imm word o t = let d = t.rd_fits in let k = t.high_fits in let e = t.sum in omega (arith, o, d, k, e)

j_below : (opcode rd offset word : ℕ) → opcode < 2 ^ 7 → JType opcode rd offset word → word < 2 ^ 32
j_below opcode rd offset word o t =
    let d = t.rd_fits in let k = t.high_fits in let b = t.bit11_fits in let l = t.low_fits in let g = t.sign_fits in let e = t.sum in
    omega (arith, o, d, k, b, l, g, e)

fence_below : (opcode funct3 fm before after rd rs1 word : ℕ) → opcode < 2 ^ 7 → funct3 < 2 ^ 3
    → FenceType opcode funct3 fm before after rd rs1 word → word < 2 ^ 32
fence_below opcode funct3 fm before after rd rs1 word o f t =
    let d = t.rd_fits in let s = t.rs1_fits in let m = t.fm_fits in let b = t.before_fits in let a = t.after_fits in let e = t.sum in
    omega (arith, o, f, d, s, m, b, a, e)

below : (i : Instr) (word : ℕ) → Encodes i word → word < 2 ^ 32
below (Lui rd imm) word t = u_below 55 rd imm word (lit< tt) t
below (Auipc rd imm) word t = u_below 23 rd imm word (lit< tt) t
below (Jal rd offset) word t = j_below 111 rd offset word (lit< tt) t
below (Jalr rd rs1 imm) word t = i_below 103 0 rd rs1 imm word (lit< tt) (lit< tt) t
below (Beq rs1 rs2 offset) word t = b_below 99 0 rs1 rs2 offset word (lit< tt) (lit< tt) t
below (Bne rs1 rs2 offset) word t = b_below 99 1 rs1 rs2 offset word (lit< tt) (lit< tt) t
below (Blt rs1 rs2 offset) word t = b_below 99 4 rs1 rs2 offset word (lit< tt) (lit< tt) t
below (Bge rs1 rs2 offset) word t = b_below 99 5 rs1 rs2 offset word (lit< tt) (lit< tt) t
below (Bltu rs1 rs2 offset) word t = b_below 99 6 rs1 rs2 offset word (lit< tt) (lit< tt) t
below (Bgeu rs1 rs2 offset) word t = b_below 99 7 rs1 rs2 offset word (lit< tt) (lit< tt) t
below (Lb rd rs1 imm) word t = i_below 3 0 rd rs1 imm word (lit< tt) (lit< tt) t
below (Lh rd rs1 imm) word t = i_below 3 1 rd rs1 imm word (lit< tt) (lit< tt) t
below (Lw rd rs1 imm) word t = i_below 3 2 rd rs1 imm word (lit< tt) (lit< tt) t
below (Lbu rd rs1 imm) word t = i_below 3 4 rd rs1 imm word (lit< tt) (lit< tt) t
below (Lhu rd rs1 imm) word t = i_below 3 5 rd rs1 imm word (lit< tt) (lit< tt) t
below (Sb rs1 rs2 imm) word t = s_below 35 0 rs1 rs2 imm word (lit< tt) (lit< tt) t
below (Sh rs1 rs2 imm) word t = s_below 35 1 rs1 rs2 imm word (lit< tt) (lit< tt) t
below (Sw rs1 rs2 imm) word t = s_below 35 2 rs1 rs2 imm word (lit< tt) (lit< tt) t
below (Addi rd rs1 imm) word t = i_below 19 0 rd rs1 imm word (lit< tt) (lit< tt) t
below (Slti rd rs1 imm) word t = i_below 19 2 rd rs1 imm word (lit< tt) (lit< tt) t
below (Sltiu rd rs1 imm) word t = i_below 19 3 rd rs1 imm word (lit< tt) (lit< tt) t
below (Xori rd rs1 imm) word t = i_below 19 4 rd rs1 imm word (lit< tt) (lit< tt) t
below (Ori rd rs1 imm) word t = i_below 19 6 rd rs1 imm word (lit< tt) (lit< tt) t
below (Andi rd rs1 imm) word t = i_below 19 7 rd rs1 imm word (lit< tt) (lit< tt) t
below (Slli rd rs1 shamt) word t = r_below 19 1 0 rd rs1 shamt word (lit< tt) (lit< tt) (lit< tt) t
below (Srli rd rs1 shamt) word t = r_below 19 5 0 rd rs1 shamt word (lit< tt) (lit< tt) (lit< tt) t
below (Srai rd rs1 shamt) word t = r_below 19 5 32 rd rs1 shamt word (lit< tt) (lit< tt) (lit< tt) t
below (Add rd rs1 rs2) word t = r_below 51 0 0 rd rs1 rs2 word (lit< tt) (lit< tt) (lit< tt) t
below (Sub rd rs1 rs2) word t = r_below 51 0 32 rd rs1 rs2 word (lit< tt) (lit< tt) (lit< tt) t
below (Sll rd rs1 rs2) word t = r_below 51 1 0 rd rs1 rs2 word (lit< tt) (lit< tt) (lit< tt) t
below (Slt rd rs1 rs2) word t = r_below 51 2 0 rd rs1 rs2 word (lit< tt) (lit< tt) (lit< tt) t
below (Sltu rd rs1 rs2) word t = r_below 51 3 0 rd rs1 rs2 word (lit< tt) (lit< tt) (lit< tt) t
below (Xor rd rs1 rs2) word t = r_below 51 4 0 rd rs1 rs2 word (lit< tt) (lit< tt) (lit< tt) t
below (Srl rd rs1 rs2) word t = r_below 51 5 0 rd rs1 rs2 word (lit< tt) (lit< tt) (lit< tt) t
below (Sra rd rs1 rs2) word t = r_below 51 5 32 rd rs1 rs2 word (lit< tt) (lit< tt) (lit< tt) t
below (Or rd rs1 rs2) word t = r_below 51 6 0 rd rs1 rs2 word (lit< tt) (lit< tt) (lit< tt) t
below (And rd rs1 rs2) word t = r_below 51 7 0 rd rs1 rs2 word (lit< tt) (lit< tt) (lit< tt) t
below (Fence fm before after rd rs1) word t = fence_below 15 0 fm before after rd rs1 word (lit< tt) (lit< tt) t
below Ecall word t = let e : word ≡ 0x73 = t in omega (arith, e)
below Ebreak word t = let e : word ≡ 0x100073 = t in omega (arith, e)

-- ---- x0 stays 0

abbrev Zero : Effect → Type 0
Zero e = slice_index e.machine.x 0 ≡ 0

register_zero : (r v : ℕ) (x : List ℕ) → slice_index x 0 ≡ 0 → slice_index (with_register r v x) 0 ≡ 0
register_zero r v x h = by_test (eqb r 0) refl where
  by_test : (b : Bool) → eqb r 0 ≡ b → slice_index (cond b x (slice_set x r v)) 0 ≡ 0
  by_test true e = h
  by_test false e = get_or-set_other x r 0 v 0 (λ same. (let is : eqb r 0 ≡ true = grind (arith, nat_tests) in cc)) ∙ h

gives_zero : (rd v : ℕ) (m : Machine) → slice_index m.x 0 ≡ 0 → Zero (gives rd v m)
gives_zero rd v m h = register_zero rd v m.x h

jumps_zero : (target : ℕ) (m l : Machine) → slice_index m.x 0 ≡ 0 → slice_index l.x 0 ≡ 0 → Zero (jumps target m l)
jumps_zero target m l h k = by_test (eqb (target % 4) 0) where
  by_test : (b : Bool) → Zero (cond b (retired target l) (trapped JumpMisaligned m))
  by_test true = k
  by_test false = h

branches_zero : (taken : Bool) (offset : ℕ) (m : Machine) → slice_index m.x 0 ≡ 0 → Zero (branches taken offset m)
branches_zero true offset m h = jumps_zero (sum m.pc offset) m m h h
branches_zero false offset m h = h

loads_zero : (fault : Option MemFault) (rd v : ℕ) (m : Machine) → slice_index m.x 0 ≡ 0 → Zero (loads_unless fault rd v m)
loads_zero None rd v m h = gives_zero rd v m h
loads_zero (Some Misaligned) rd v m h = h
loads_zero (Some Outside) rd v m h = h
loads_zero (Some NoMemory) rd v m h = h

stores_zero : (fault : Option MemFault) (bytes : List ℕ) (address : ℕ) (m : Machine) → slice_index m.x 0 ≡ 0
    → Zero (stores_unless fault bytes address m)
stores_zero None bytes address m h = h
stores_zero (Some Misaligned) bytes address m h = h
stores_zero (Some Outside) bytes address m h = h
stores_zero (Some NoMemory) bytes address m h = h

fetch_zero : (fault : MemFault) (m : Machine) → slice_index m.x 0 ≡ 0 → Zero (fetch_fault fault m)
fetch_zero Misaligned m h = h
fetch_zero Outside m h = h
fetch_zero NoMemory m h = h

either_zero : (b : Bool) (x y : Effect) → Zero x → Zero y → Zero (cond b x y)
either_zero true x y h k = h
either_zero false x y h k = k

calls_zero : (m : Machine) → slice_index m.x 0 ≡ 0 → Zero (calls m)
calls_zero m h = either_zero (eqb (value 17 m) 93) _ _ h (either_zero (eqb (value 17 m) 1) _ _ h h)

zero_of : (i : Instr) (m : Machine) → slice_index m.x 0 ≡ 0 → Zero (effect_of i m)
zero_of (Lui rd imm) m h = gives_zero rd _ m h
zero_of (Auipc rd imm) m h = gives_zero rd _ m h
zero_of (Jal rd offset) m h = jumps_zero (sum m.pc offset) m (linked rd m) h (register_zero rd (sum m.pc 4) m.x h)
zero_of (Jalr rd rs1 imm) m h = jumps_zero (sum (value rs1 m) imm / 2 * 2) m (linked rd m) h (register_zero rd (sum m.pc 4) m.x h)
zero_of (Beq rs1 rs2 offset) m h = branches_zero _ offset m h
zero_of (Bne rs1 rs2 offset) m h = branches_zero _ offset m h
zero_of (Blt rs1 rs2 offset) m h = branches_zero _ offset m h
zero_of (Bge rs1 rs2 offset) m h = branches_zero _ offset m h
zero_of (Bltu rs1 rs2 offset) m h = branches_zero _ offset m h
zero_of (Bgeu rs1 rs2 offset) m h = branches_zero _ offset m h
zero_of (Lb rd rs1 imm) m h = loads_zero _ rd _ m h
zero_of (Lh rd rs1 imm) m h = loads_zero _ rd _ m h
zero_of (Lw rd rs1 imm) m h = loads_zero _ rd _ m h
zero_of (Lbu rd rs1 imm) m h = loads_zero _ rd _ m h
zero_of (Lhu rd rs1 imm) m h = loads_zero _ rd _ m h
zero_of (Addi rd rs1 imm) m h = gives_zero rd _ m h
zero_of (Slti rd rs1 imm) m h = gives_zero rd _ m h
zero_of (Sltiu rd rs1 imm) m h = gives_zero rd _ m h
zero_of (Xori rd rs1 imm) m h = gives_zero rd _ m h
zero_of (Ori rd rs1 imm) m h = gives_zero rd _ m h
zero_of (Andi rd rs1 imm) m h = gives_zero rd _ m h
zero_of (Slli rd rs1 shamt) m h = gives_zero rd _ m h
zero_of (Srli rd rs1 shamt) m h = gives_zero rd _ m h
zero_of (Srai rd rs1 shamt) m h = gives_zero rd _ m h
zero_of (Add rd rs1 rs2) m h = gives_zero rd _ m h
zero_of (Sub rd rs1 rs2) m h = gives_zero rd _ m h
zero_of (Sll rd rs1 rs2) m h = gives_zero rd _ m h
zero_of (Slt rd rs1 rs2) m h = gives_zero rd _ m h
zero_of (Sltu rd rs1 rs2) m h = gives_zero rd _ m h
zero_of (Xor rd rs1 rs2) m h = gives_zero rd _ m h
zero_of (Srl rd rs1 rs2) m h = gives_zero rd _ m h
zero_of (Sra rd rs1 rs2) m h = gives_zero rd _ m h
zero_of (Or rd rs1 rs2) m h = gives_zero rd _ m h
zero_of (And rd rs1 rs2) m h = gives_zero rd _ m h
zero_of (Fence fm before after rd rs1) m h = h
zero_of Ecall m h = calls_zero m h
zero_of Ebreak m h = h
zero_of _ m h = stores_zero _ _ _ m h

-- ---- the decoding

decoding_by : (word : ℕ) (found : Option Instr) → decoded word ≡ found → (small : Bool) → ltb word (2 ^ 32) ≡ small → HasDecoding word
decoding_by word None e small s = record { instr = None; is = illegal word e }
decoding_by word (Some j) e true s = record { instr = Some j; is = sound word (ltb-true word (2 ^ 32) s) j e }
decoding_by word (Some j) e false s =
    record {
      instr = None;
      is = λ i t. (let small = below i word t in let not : ltb word (2 ^ 32) ≡ true = lt-ltb word (2 ^ 32) small in cc);
    }

pub the_decoding : (word : ℕ) → HasDecoding word
the_decoding word = decoding_by word (decoded word) refl (ltb word (2 ^ 32)) refl

pub one_decoding : (word : ℕ) (a b : Option Instr) → IsDecoding word a → IsDecoding word b → a ≡ b
one_decoding word None None h k = refl
one_decoding word None (Some j) h k = absurd (h j k)
one_decoding word (Some i) None h k = absurd (k i h)
one_decoding word (Some i) (Some j) h k = ap (λ n. Some n) (one_instruction i j word h k)

-- ---- the move

record MoveAt (m : Machine) (word : ℕ) : Type 0 where
  effect : Effect
  of_each : (i : Instr) → Encodes i word → effect ≡ effect_of i m
  of_none : IsIllegal word → effect ≡ trapped Illegal m
  zero : slice_index m.x 0 ≡ 0 → Zero effect

move_by : (m : Machine) (word : ℕ) (instr : Option Instr) → IsDecoding word instr → MoveAt m word
move_by m word None none = record { effect = trapped Illegal m; of_each = λ i t. absurd (none i t); of_none = λ _. refl; zero = λ h. h }
move_by m word (Some j) is = record {
  effect = effect_of j m;
  of_each = λ i t. (let same : j ≡ i = one_instruction j i word is t in ap (λ k. effect_of k m) same);
  of_none = λ none. absurd (none j is);
  zero = zero_of j m;
}

by_word : (m : Machine) (word : Result ℕ MemFault) → word_at m.memory m.pc ≡ word → HasMove m
by_word m (Ok word) e =
    let d = the_decoding word in let x = move_by m word d.instr d.is in
    record { effect = x.effect; is = rw e (x.of_each, x.of_none); zero = x.zero }
by_word m (Err fault) e = record { effect = fetch_fault fault m; is = rw e refl; zero = fetch_zero fault m }

pub the_move : (m : Machine) → HasMove m
the_move m = by_word m (word_at m.memory m.pc) refl

-- ---- it is answered

fetch_answers : (fault : MemFault) (m : Machine) → is_ok (fetch_fault fault m).answer ≡ true
fetch_answers Misaligned m = refl
fetch_answers Outside m = refl
fetch_answers NoMemory m = refl

pub moves_answer : MovesAnswer
moves_answer m e moves = go (word_at m.memory m.pc) moves where
  by_decoding : (word : ℕ) (instr : Option Instr) → IsDecoding word instr
      → ((i : Instr) → Encodes i word → e ≡ effect_of i m) × (IsIllegal word → e ≡ trapped Illegal m) → is_ok e.answer ≡ true
  by_decoding word (Some i) d h = step_answers m e i (h.0 i d)
  by_decoding word None d h = ap (λ (x : Effect). is_ok x.answer) (h.1 d)

  go : (w : Result ℕ MemFault)
      → MatchResult w (λ word. ((i : Instr) → Encodes i word → e ≡ effect_of i m) × (IsIllegal word → e ≡ trapped Illegal m)) (λ f. e ≡ fetch_fault f m)
      → is_ok e.answer ≡ true
  go (Ok word) h = let d = the_decoding word in by_decoding word d.instr d.is h
  go (Err f) h = ap (λ (x : Effect). is_ok x.answer) h ∙ fetch_answers f m
