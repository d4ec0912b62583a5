-- Each move leaves a machine in range.
use Rattle.range_laws.proofs.Common.{[], AreBytes, arith, bit_and, bit_or, bit_xor, Bool, branches, byte_extended, bytes_at, calls, cond, difference, Effect, effect_of, eqb, Err, false, fault_at, fetch_fault, flag, gives, halfword_bytes, halfword_extended, InRange, Instr, IsWord, jumps, linked, List, little_endian, loads_unless, Machine, MatchResult, MovesStayInRange, None, Ok, Option, places, Result, retired, shifted_left, shifted_right, shifted_right_signed, Some, stores_unless, subst, sum, sym, trapped, true, value, word_at, word_bytes, ℕ, ◌%◌, ◌*◌, ◌/◌, ◌∷◌, ◌≡◌}
use Rattle.image.specs.declared.fault.MemFault.{MemFault}
use Rattle.image.specs.declared.fault.MemFault.TheVariants.{Misaligned, Outside, NoMemory}
use Rattle.rv32i.specs.Encoding.{Encodes, IsDecoding, IsIllegal}
use Rattle.rv32i.specs.Formats.{IType, UType}
use Rattle.rv32i.specs.declared.instr.Instr.TheVariants.{Jal, Jalr, Beq, Bne, Blt, Bge, Bltu, Bgeu, Lb, Lh, Lw, Lbu, Lhu, Sb, Sh, Sw, Ecall, Lui, Auipc, Addi, Slti, Sltiu, Xori, Ori, Andi, Slli, Srli, Srai, Add, Sub, Sll, Slt, Sltu, Xor, Srl, Sra, Or, And, Fence, Ebreak}
use Rattle.rv32i.specs.declared.stepped.Cause.TheVariants.{Illegal, JumpMisaligned}
use Rattle.rv32i.proofs.Moving.{the_decoding}
use Rattle.range_laws.proofs.Words.{and_word, byte_extended_word, byte_read, bytes_in_range, difference_word, flag_word, halfword_extended_word, halfword_in_range, halfword_read, left_word, one_byte, or_word, register_word, right_signed_word, right_word, sum_word, to_even, with_register_in_range, word_in_range, word_read, xor_word}

abbrev StaysIn : Effect → Type 0
StaysIn e = InRange e.machine

-- ---- immediates are words

immediate : (opcode funct3 rd rs1 imm word : ℕ) → IType opcode funct3 rd rs1 imm word → IsWord imm
immediate opcode funct3 rd rs1 imm word t = let g = t.sign_fits in let l = t.low_fits in let e = t.value in omega (arith, g, l, e)

upper_immediate : (opcode rd imm word : ℕ) → UType opcode rd imm word → IsWord imm
upper_immediate opcode rd imm word t = let k = t.high_fits in let e = t.value in omega (arith, k, e)

-- ---- what a move is made of

value_word : (r : ℕ) (m : Machine) → InRange m → IsWord (value r m)
value_word r m h = register_word m.x r h.x.words

next_in : (m : Machine) → InRange m → InRange (record m { pc = sum m.pc 4 })
next_in m h = record { pc = sum_word m.pc 4; x = h.x; memory = h.memory }

retired_in : (pc : ℕ) (m : Machine) → IsWord pc → InRange m → StaysIn (retired pc m)
retired_in pc m w h = record { pc = w; x = h.x; memory = h.memory }

gives_in : (rd v : ℕ) (m : Machine) → IsWord v → InRange m → StaysIn (gives rd v m)
gives_in rd v m w h = record { pc = sum_word m.pc 4; x = with_register_in_range rd v m.x w h.x; memory = h.memory }

linked_in : (rd : ℕ) (m : Machine) → InRange m → InRange (linked rd m)
linked_in rd m h = record { pc = h.pc; x = with_register_in_range rd (sum m.pc 4) m.x (sum_word m.pc 4) h.x; memory = h.memory }

jumps_in : (target : ℕ) (m l : Machine) → IsWord target → InRange m → InRange l → StaysIn (jumps target m l)
jumps_in target m l w h k = by_test (eqb (target % 4) 0) where
  by_test : (b : Bool) → StaysIn (cond b (retired target l) (trapped JumpMisaligned m))
  by_test true = retired_in target l w k
  by_test false = h

branches_in : (taken : Bool) (offset : ℕ) (m : Machine) → InRange m → StaysIn (branches taken offset m)
branches_in true offset m h = jumps_in (sum m.pc offset) m m (sum_word m.pc offset) h h
branches_in false offset m h = next_in m h

loads_in : (fault : Option MemFault) (rd v : ℕ) (m : Machine) → IsWord v → InRange m → StaysIn (loads_unless fault rd v m)
loads_in None rd v m w h = gives_in rd v m w h
loads_in (Some Misaligned) rd v m w h = h
loads_in (Some Outside) rd v m w h = h
loads_in (Some NoMemory) rd v m w h = h

stores_in : (fault : Option MemFault) (bytes : List ℕ) (address : ℕ) (m : Machine) → AreBytes bytes → InRange m
    → StaysIn (stores_unless fault bytes address m)
stores_in None bytes address m w h = record { pc = sum_word m.pc 4; x = h.x; memory = bytes_in_range m.memory address bytes h.memory w }
stores_in (Some Misaligned) bytes address m w h = h
stores_in (Some Outside) bytes address m w h = h
stores_in (Some NoMemory) bytes address m w h = h

fetch_in : (fault : MemFault) (m : Machine) → InRange m → StaysIn (fetch_fault fault m)
fetch_in Misaligned m h = h
fetch_in Outside m h = h
fetch_in NoMemory m h = h

either_in : (b : Bool) (x y : Effect) → StaysIn x → StaysIn y → StaysIn (cond b x y)
either_in true x y h k = h
either_in false x y h k = k

calls_in : (m : Machine) → InRange m → StaysIn (calls m)
calls_in m h = either_in (eqb (value 17 m) 93) _ _ h (either_in (eqb (value 17 m) 1) _ _ (next_in m h) h)

-- ---- operations of registers

flags_in : (rd : ℕ) (test : Bool) (m : Machine) → InRange m → StaysIn (gives rd (flag test) m)
flags_in rd test m h = gives_in rd (flag test) m (flag_word test) h

sums_in : (rd a b : ℕ) (m : Machine) → InRange m → StaysIn (gives rd (sum a b) m)
sums_in rd a b m h = gives_in rd (sum a b) m (sum_word a b) h

-- ---- instructions

in_of : (i : Instr) (m : Machine) (word : ℕ) → Encodes i word → InRange m → StaysIn (effect_of i m)
in_of (Lui rd imm) m word t h = gives_in rd imm m (upper_immediate 55 rd imm word t) h
in_of (Auipc rd imm) m word t h = sums_in rd m.pc imm m h
in_of (Jal rd offset) m word t h = jumps_in (sum m.pc offset) m (linked rd m) (sum_word m.pc offset) h (linked_in rd m h)
in_of (Jalr rd rs1 imm) m word t h =
    jumps_in (sum (value rs1 m) imm / 2 * 2) m (linked rd m) (to_even (sum (value rs1 m) imm) (sum_word (value rs1 m) imm)) h
    (linked_in rd m h)
in_of (Beq rs1 rs2 offset) m word t h = branches_in _ offset m h
in_of (Bne rs1 rs2 offset) m word t h = branches_in _ offset m h
in_of (Blt rs1 rs2 offset) m word t h = branches_in _ offset m h
in_of (Bge rs1 rs2 offset) m word t h = branches_in _ offset m h
in_of (Bltu rs1 rs2 offset) m word t h = branches_in _ offset m h
in_of (Bgeu rs1 rs2 offset) m word t h = branches_in _ offset m h
in_of (Lb rd rs1 imm) m word t h =
    let a = sum (value rs1 m) imm in
    loads_in (fault_at m.memory 1 a 1) rd (byte_extended (little_endian (bytes_at m.memory a 1))) m
    (byte_extended_word (little_endian (bytes_at m.memory a 1)) (byte_read m.memory a h.memory)) h
in_of (Lh rd rs1 imm) m word t h =
    let a = sum (value rs1 m) imm in
    loads_in (fault_at m.memory 2 a 2) rd (halfword_extended (little_endian (bytes_at m.memory a 2))) m
    (halfword_extended_word (little_endian (bytes_at m.memory a 2)) (halfword_read m.memory a h.memory)) h
in_of (Lw rd rs1 imm) m word t h =
    let a = sum (value rs1 m) imm in
    loads_in (fault_at m.memory 4 a 4) rd (little_endian (bytes_at m.memory a 4)) m (word_read m.memory a h.memory) h
in_of (Lbu rd rs1 imm) m word t h =
    let a = sum (value rs1 m) imm in
    loads_in (fault_at m.memory 1 a 1) rd (little_endian (bytes_at m.memory a 1)) m
    (let b = byte_read m.memory a h.memory in omega (arith, b)) h
in_of (Lhu rd rs1 imm) m word t h =
    let a = sum (value rs1 m) imm in
    loads_in (fault_at m.memory 2 a 2) rd (little_endian (bytes_at m.memory a 2)) m
    (let b = halfword_read m.memory a h.memory in omega (arith, b)) h
in_of (Sb rs1 rs2 imm) m word t h =
    let a = sum (value rs1 m) imm in stores_in (fault_at m.memory 1 a 1) (value rs2 m % 256 ∷ []) a m (one_byte (value rs2 m)) h
in_of (Sh rs1 rs2 imm) m word t h =
    let a = sum (value rs1 m) imm in
    stores_in (fault_at m.memory 2 a 2) (halfword_bytes (value rs2 m)) a m (halfword_in_range (value rs2 m)) h
in_of (Sw rs1 rs2 imm) m word t h =
    let a = sum (value rs1 m) imm in stores_in (fault_at m.memory 4 a 4) (word_bytes (value rs2 m)) a m (word_in_range (value rs2 m)) h
in_of (Addi rd rs1 imm) m word t h = sums_in rd (value rs1 m) imm m h
in_of (Slti rd rs1 imm) m word t h = flags_in rd _ m h
in_of (Sltiu rd rs1 imm) m word t h = flags_in rd _ m h
in_of (Xori rd rs1 imm) m word t h =
    gives_in rd (bit_xor (value rs1 m) imm) m (xor_word (value rs1 m) imm (value_word rs1 m h) (immediate 19 4 rd rs1 imm word t)) h
in_of (Ori rd rs1 imm) m word t h =
    gives_in rd (bit_or (value rs1 m) imm) m (or_word (value rs1 m) imm (value_word rs1 m h) (immediate 19 6 rd rs1 imm word t)) h
in_of (Andi rd rs1 imm) m word t h =
    gives_in rd (bit_and (value rs1 m) imm) m (and_word (value rs1 m) imm (value_word rs1 m h) (immediate 19 7 rd rs1 imm word t)) h
in_of (Slli rd rs1 shamt) m word t h = gives_in rd (shifted_left (value rs1 m) shamt) m (left_word (value rs1 m) shamt) h
in_of (Srli rd rs1 shamt) m word t h =
    gives_in rd (shifted_right (value rs1 m) shamt) m (right_word (value rs1 m) shamt (value_word rs1 m h)) h
in_of (Srai rd rs1 shamt) m word t h = gives_in rd (shifted_right_signed (value rs1 m) shamt) m (right_signed_word (value rs1 m) shamt) h
in_of (Add rd rs1 rs2) m word t h = sums_in rd (value rs1 m) (value rs2 m) m h
in_of (Sub rd rs1 rs2) m word t h = gives_in rd (difference (value rs1 m) (value rs2 m)) m (difference_word (value rs1 m) (value rs2 m)) h
in_of (Sll rd rs1 rs2) m word t h =
    gives_in rd (shifted_left (value rs1 m) (places (value rs2 m))) m (left_word (value rs1 m) (places (value rs2 m))) h
in_of (Slt rd rs1 rs2) m word t h = flags_in rd _ m h
in_of (Sltu rd rs1 rs2) m word t h = flags_in rd _ m h
in_of (Xor rd rs1 rs2) m word t h =
    gives_in rd (bit_xor (value rs1 m) (value rs2 m)) m (xor_word (value rs1 m) (value rs2 m) (value_word rs1 m h) (value_word rs2 m h)) h
in_of (Srl rd rs1 rs2) m word t h =
    gives_in rd (shifted_right (value rs1 m) (places (value rs2 m))) m
    (right_word (value rs1 m) (places (value rs2 m)) (value_word rs1 m h)) h
in_of (Sra rd rs1 rs2) m word t h =
    gives_in rd (shifted_right_signed (value rs1 m) (places (value rs2 m))) m (right_signed_word (value rs1 m) (places (value rs2 m))) h
in_of (Or rd rs1 rs2) m word t h =
    gives_in rd (bit_or (value rs1 m) (value rs2 m)) m (or_word (value rs1 m) (value rs2 m) (value_word rs1 m h) (value_word rs2 m h)) h
in_of (And rd rs1 rs2) m word t h =
    gives_in rd (bit_and (value rs1 m) (value rs2 m)) m (and_word (value rs1 m) (value rs2 m) (value_word rs1 m h) (value_word rs2 m h)) h
in_of (Fence fm before after rd rs1) m word t h = next_in m h
in_of Ecall m word t h = calls_in m h
in_of Ebreak m word t h = next_in m h

-- ---- moves

pub moves_stay_in_range : MovesStayInRange
moves_stay_in_range m e h r = go (word_at m.memory m.pc) h where
  of_effect : (effect : Effect) → e ≡ effect → StaysIn effect → StaysIn e
  of_effect effect same c = subst StaysIn (sym same) c

  by_decoding : (word : ℕ) (decoded : Option Instr) → IsDecoding word decoded
      → ((i : Instr) → Encodes i word → e ≡ effect_of i m) × (IsIllegal word → e ≡ trapped Illegal m) → StaysIn e
  by_decoding word (Some i) d h = of_effect (effect_of i m) (h.0 i d) (in_of i m word d r)
  by_decoding word None d h = of_effect (trapped Illegal m) (h.1 d) r

  go : (w : Result ℕ MemFault)
      → MatchResult w (λ word. ((i : Instr) → Encodes i word → e ≡ effect_of i m) × (IsIllegal word → e ≡ trapped Illegal m)) (λ f. e ≡ fetch_fault f m)
      → StaysIn e
  go (Ok word) h = let d = the_decoding word in by_decoding word d.instr d.is h
  go (Err f) h = of_effect (fetch_fault f m) h (fetch_in f m r)
