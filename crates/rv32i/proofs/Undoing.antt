-- What is kept of a move undoes it.
use Rattle.rv32i.proofs.Common.{[], Add, Addi, And, Andi, ap, append_assoc, arith, Auipc, Beq, Bge, Bgeu, Blt, Bltu, Bne, Bool, branches, bytes_at, calls, cond, drop, drop-drop, drop_at, Ebreak, Ecall, Effect, effect_of, Encodes, eqb, Exit, false, fault_at, Fence, fetch_fault, first_address, gives, halfword_bytes, has_bytes, Illegal, Instr, IsDecodedAtPc, IsIllegal, IsTrue, Jal, Jalr, JumpMisaligned, jumps, Lb, Lbu, leb, length, length-append, length-drop, length-take-le, Lh, Lhu, linked, List, loads_unless, Lui, Lw, Machine, MemFault, memory_after, Misaligned, nat_tests, NoMemory, None, not, Ok, Option, Or, Ori, Outside, Printed, refl, Result, retired, Sb, set-get_or, set-set, Sh, signed, slice_index, slice_set, Sll, Slli, Slt, Slti, Sltiu, Sltu, Some, Sra, Srai, Srl, Srli, stores_unless, Sub, subst, suc, sum, Sw, sym, take, take-append-drop, take_at, trapped, true, UnknownCall, value, with_bytes, with_register, word_at, word_bytes, Xor, Xori, ℕ, ◌%◌, ◌&&◌, ◌++◌, ◌+◌, ◌-◌, ◌||◌, ◌∙◌, ◌∷◌, ◌≡◌, ◌≤◌}
use Rattle.std.proofs.Common.{MatchResult}
use Rattle.rv32i.specs.Undoing.{IsKept, Undoes, destination, retires, stored, undone}
use Rattle.rv32i.specs.declared.undo.Undo.{Undo}

-- ---- a register is set back

register_back : (r v : ℕ) (x : List ℕ) → with_register r (slice_index x r) (with_register r v x) ≡ x
register_back r v x = by (eqb r 0) where
  by : (b : Bool) → cond b (cond b x (slice_set x r v)) (slice_set (cond b x (slice_set x r v)) r (slice_index x r)) ≡ x
  by true = refl
  by false = set-set x r v (slice_index x r) ∙ set-get_or x r 0

-- ---- bytes are set back

record Inside (memory : List ℕ) (address count : ℕ) : Type 0 where
  low : first_address ≤ address
  high : address + count ≤ first_address + length memory

inside : (memory : List ℕ) (address count : ℕ) → has_bytes memory address (suc count) ≡ true → Inside memory address (suc count)
inside memory address count h =
    let none : eqb (suc count) 0 ≡ false = grind (arith, nat_tests) in
    let both : (leb first_address address && leb (address + suc count) (first_address + length memory)) ≡ true = (rw none at h) in
    record { low = grind (arith, nat_tests); high = grind (arith, nat_tests) }

joined : (m : List ℕ) (k n : ℕ) → take k m ++ take n (drop k m) ++ drop (k + n) m ≡ m
joined m k n =
    append_assoc (take k m) (take n (drop k m)) (drop (k + n) m)
    ∙ ap (λ (l : List ℕ). take k m ++ (take n (drop k m) ++ l)) (sym (drop-drop n k m))
    ∙ ap (λ (l : List ℕ). take k m ++ l) (take-append-drop n (drop k m))
    ∙ take-append-drop k m

abbrev put : List ℕ → ℕ → List ℕ → List ℕ
put m k bytes = take k m ++ bytes ++ drop (k + length bytes) m

length_put : (m : List ℕ) (k : ℕ) (bytes : List ℕ) → k + length bytes ≤ length m → length (put m k bytes) ≡ length m
length_put m k bytes fits =
    let t : length (take k m) ≡ k = length-take-le k m (omega (arith, fits)) in
    let a : length (take k m ++ bytes) ≡ length (take k m) + length bytes = length-append (take k m) bytes in
    let b : length (put m k bytes) ≡ length (take k m ++ bytes) + length (drop (k + length bytes) m) = length-append (take k m ++ bytes)
    (drop (k + length bytes) m) in
    let d : length (drop (k + length bytes) m) ≡ length m - (k + length bytes) = length-drop (k + length bytes) m in
    omega (arith, t, a, b, d, fits)

put_back : (m : List ℕ) (k : ℕ) (new old : List ℕ) → k + length new ≤ length m → length old ≡ length new
    → old ≡ take (length new) (drop k m) → put (put m k new) k old ≡ m
put_back m k new old fits same is =
    let n = length new in
    let t : length (take k m) ≡ k = length-take-le k m (omega (arith, fits)) in
    let front : take k (put m k new) ≡ take k m = ap (λ (l : List ℕ). take k l) (append_assoc (take k m) new (drop (k + n) m))
    ∙ take_at (take k m) (new ++ drop (k + n) m) k t in
    let a : length (take k m ++ new) ≡ length (take k m) + n = length-append (take k m) new in
    let both : length (take k m ++ new) ≡ k + n = omega (arith, t, a) in
    let rest : drop (k + n) (put m k new) ≡ drop (k + n) m = drop_at (take k m ++ new) (drop (k + n) m) (k + n) both in
    ap (λ (j : ℕ). take k (put m k new) ++ old ++ drop (k + j) (put m k new)) same
    ∙ ap (λ (l : List ℕ). l ++ old ++ drop (k + n) (put m k new)) front
    ∙ ap (λ (l : List ℕ). take k m ++ l ++ drop (k + n) (put m k new)) is
    ∙ ap (λ (l : List ℕ). take k m ++ take n (drop k m) ++ l) rest
    ∙ joined m k n

still_there : (m w : List ℕ) (address count : ℕ) → length w ≡ length m → has_bytes m address count ≡ true
    → fault_at w 1 address count ≡ None
still_there m w address count same h =
    let there : has_bytes w address count ≡ true = ap
    (λ (n : ℕ). eqb count 0 || (leb first_address address && leb (address + count) (first_address + n))) same ∙ h in
    let one : eqb (address % 1) 0 ≡ true = (let none : address % 1 ≡ 0 = omega arith in grind (arith, nat_tests)) in
    ap (λ (b : Bool). cond (not b) (Some Misaligned) (cond (has_bytes w address count) None (Some Outside))) one
    ∙ ap (λ (b : Bool). cond b None (Some Outside)) there

pub bytes_back : (m : List ℕ) (address count : ℕ) (new old : List ℕ) → has_bytes m address (suc count) ≡ true → length new ≡ suc count
    → old ≡ bytes_at m address (suc count)
    → memory_after (fault_at (with_bytes m address new) 1 address (length old)) (with_bytes (with_bytes m address new) address old) (with_bytes m address new) ≡ m
bytes_back m address count new old h long is =
    let i = inside m address count h in
    let k = address - first_address in
    let low = i.low in
    let high = i.high in
    let room : k + suc count ≤ length m = omega (arith, low, high) in
    let fits : k + length new ≤ length m = omega (arith, room, long) in
    let there : suc count ≤ length (drop k m) = (let d = length-drop k m in omega (arith, d, room)) in
    let size : length old ≡ suc count = ap length is ∙ length-take-le (suc count) (drop k m) there in
    let same : length (with_bytes m address new) ≡ length m = length_put m k new fits in
    let none : fault_at (with_bytes m address new) 1 address (length old) ≡ None =
    ap (λ (n : ℕ). fault_at (with_bytes m address new) 1 address n) size
    ∙ still_there m (with_bytes m address new) address (suc count) same h in
    ap (λ (f : Option MemFault). memory_after f (with_bytes (with_bytes m address new) address old) (with_bytes m address new)) none
    ∙ put_back m k new old fits (size ∙ sym long) (is ∙ ap (λ (n : ℕ). take n (drop k m)) (sym long))

-- ---- what the machine was

abbrev machine : ℕ → List ℕ → List ℕ → Machine
machine pc x memory = record { pc = pc; x = x; memory = memory }

-- by what is kept of an instruction
abbrev back : Undo → Machine → Machine → Type 0
back u m after = undone u after ≡ m

none_stored : (memory bytes : List ℕ) → bytes ≡ []
    → memory_after (fault_at memory 1 0 (length bytes)) (with_bytes memory 0 bytes) memory ≡ memory
none_stored memory bytes e =
    subst (λ (l : List ℕ). memory_after (fault_at memory 1 0 (length l)) (with_bytes memory 0 l) memory ≡ memory) (sym e) refl

module _ (m : Machine) (u : Undo) where
  -- only a register was written
  only_register : (r v pc : ℕ) → u.pc ≡ m.pc → u.register ≡ r → u.value ≡ value r m → u.address ≡ 0 → take u.count u.bytes ≡ []
      → back u m (machine pc (with_register r v m.x) m.memory)
  only_register r v pc p e f a b =
      ap (λ (q : ℕ). machine q (with_register u.register u.value (with_register r v m.x))
      (memory_after (fault_at m.memory 1 u.address (length (take u.count u.bytes)))
      (with_bytes m.memory u.address (take u.count u.bytes)) m.memory)) p
      ∙ ap (λ (q : ℕ). machine m.pc (with_register q u.value (with_register r v m.x))
      (memory_after (fault_at m.memory 1 u.address (length (take u.count u.bytes)))
      (with_bytes m.memory u.address (take u.count u.bytes)) m.memory)) e
      ∙ ap (λ (q : ℕ). machine m.pc (with_register r q (with_register r v m.x))
      (memory_after (fault_at m.memory 1 u.address (length (take u.count u.bytes)))
      (with_bytes m.memory u.address (take u.count u.bytes)) m.memory)) f
      ∙ ap (λ (x : List ℕ). machine m.pc x
      (memory_after (fault_at m.memory 1 u.address (length (take u.count u.bytes)))
      (with_bytes m.memory u.address (take u.count u.bytes)) m.memory)) (register_back r v m.x)
      ∙ ap (λ (q : ℕ). machine m.pc m.x
      (memory_after (fault_at m.memory 1 q (length (take u.count u.bytes))) (with_bytes m.memory q (take u.count u.bytes)) m.memory)) a
      ∙ ap (λ (l : List ℕ). machine m.pc m.x l) (none_stored m.memory (take u.count u.bytes) b)

  -- only bytes were stored
  only_bytes : (address count pc : ℕ) (new : List ℕ) → u.pc ≡ m.pc → u.register ≡ 0 → u.address ≡ address
      → take u.count u.bytes ≡ bytes_at m.memory address (suc count) → has_bytes m.memory address (suc count) ≡ true
      → length new ≡ suc count
      → back u m (machine pc m.x (with_bytes m.memory address new))
  only_bytes address count pc new p e a b h long =
      let w = with_bytes m.memory address new in
      ap (λ (q : ℕ). machine q (with_register u.register u.value m.x)
      (memory_after (fault_at w 1 u.address (length (take u.count u.bytes))) (with_bytes w u.address (take u.count u.bytes)) w)) p
      ∙ ap (λ (q : ℕ). machine m.pc (with_register q u.value m.x)
      (memory_after (fault_at w 1 u.address (length (take u.count u.bytes))) (with_bytes w u.address (take u.count u.bytes)) w)) e
      ∙ ap (λ (q : ℕ). machine m.pc m.x
      (memory_after (fault_at w 1 q (length (take u.count u.bytes))) (with_bytes w q (take u.count u.bytes)) w)) a
      ∙ ap (λ (l : List ℕ). machine m.pc m.x l) (bytes_back m.memory address count new (take u.count u.bytes) h long b)

-- ---- instructions

abbrev pub BackFrom : Undo → Machine → Effect → Type 0
BackFrom u m e = IsTrue (retires e.answer) → undone u e.machine ≡ m

-- what is kept of an instruction that stores nothing and writes this register
record Plain (r : ℕ) (m : Machine) (u : Undo) : Type 0 where
  pc : u.pc ≡ m.pc
  register : u.register ≡ r
  value_is : u.value ≡ value r m
  address : u.address ≡ 0
  bytes : take u.count u.bytes ≡ []

gives_back : (r v : ℕ) (m : Machine) (u : Undo) → Plain r m u → BackFrom u m (gives r v m)
gives_back r v m u k = λ _. only_register m u r v (sum m.pc 4) k.pc k.register k.value_is k.address k.bytes

next_back : (pc : ℕ) (m : Machine) (u : Undo) → Plain 0 m u → undone u (machine pc m.x m.memory) ≡ m
next_back pc m u k = only_register m u 0 0 pc k.pc k.register k.value_is k.address k.bytes

jumps_back : (r target : ℕ) (m : Machine) (u : Undo) → Plain r m u → BackFrom u m (jumps target m (linked r m))
jumps_back r target m u k = by (eqb (target % 4) 0) where
  by : (b : Bool) → BackFrom u m (cond b (retired target (linked r m)) (trapped JumpMisaligned m))
  by true = λ _. only_register m u r (sum m.pc 4) target k.pc k.register k.value_is k.address k.bytes
  by false = λ t. absurd (let no : false ≡ true = t in cc)

branches_back : (taken : Bool) (offset : ℕ) (m : Machine) (u : Undo) → Plain 0 m u → BackFrom u m (branches taken offset m)
branches_back true offset m u k = by (eqb (sum m.pc offset % 4) 0) where
  by : (b : Bool) → BackFrom u m (cond b (retired (sum m.pc offset) m) (trapped JumpMisaligned m))
  by true = λ _. next_back (sum m.pc offset) m u k
  by false = λ t. absurd (let no : false ≡ true = t in cc)
branches_back false offset m u k = λ _. next_back (sum m.pc 4) m u k

loads_back : (fault : Option MemFault) (r v : ℕ) (m : Machine) (u : Undo) → Plain r m u → BackFrom u m (loads_unless fault r v m)
loads_back None r v m u k = gives_back r v m u k
loads_back (Some Misaligned) r v m u k = λ t. absurd (let no : false ≡ true = t in cc)
loads_back (Some Outside) r v m u k = λ t. absurd (let no : false ≡ true = t in cc)
loads_back (Some NoMemory) r v m u k = λ t. absurd (let no : false ≡ true = t in cc)

-- what is kept of a store
record Storing (address count : ℕ) (m : Machine) (u : Undo) : Type 0 where
  pc : u.pc ≡ m.pc
  register : u.register ≡ 0
  address_is : u.address ≡ address
  bytes : fault_at m.memory count address count ≡ None → take u.count u.bytes ≡ bytes_at m.memory address count

stores_back : (address count : ℕ) (new : List ℕ) (m : Machine) (u : Undo) → length new ≡ suc count → Storing address (suc count) m u
    → BackFrom u m (stores_unless (fault_at m.memory (suc count) address (suc count)) new address m)
stores_back address count new m u long k =
    by (eqb (address % suc count) 0) (has_bytes m.memory address (suc count)) refl refl where
      by : (aligned there : Bool) → eqb (address % suc count) 0 ≡ aligned → has_bytes m.memory address (suc count) ≡ there
          → BackFrom u m (stores_unless (cond (not aligned) (Some Misaligned) (cond there None (Some Outside))) new address m)
      by false there a h = λ t. absurd (let no : false ≡ true = t in cc)
      by true false a h = λ t. absurd (let no : false ≡ true = t in cc)
      by true true a h =
          let none : fault_at m.memory (suc count) address (suc count) ≡ None = rw (a, h) refl in
          λ _. only_bytes m u address count (sum m.pc 4) new k.pc k.register k.address_is (k.bytes none) h long

calls_back : (m : Machine) (u : Undo) → Plain 0 m u → BackFrom u m (calls m)
calls_back m u k = by (eqb (value 17 m) 93) (eqb (value 17 m) 1) where
  by : (a b : Bool)
      → BackFrom u m (cond a (record { answer = Ok (Exit (signed (value 10 m))); machine = m }) (cond b (record { answer = Ok (Printed (signed (value 10 m))); machine = record m { pc = sum m.pc 4 } }) (trapped UnknownCall m)))
  by true b = λ t. absurd (let no : false ≡ true = t in cc)
  by false true = λ _. next_back (sum m.pc 4) m u k
  by false false = λ t. absurd (let no : false ≡ true = t in cc)

none_taken : (u : Undo) → u.count ≡ 0 → take u.count u.bytes ≡ []
none_taken u e = ap (λ (n : ℕ). take n u.bytes) e

plain : (i : Instr) (r : ℕ) (m : Machine) (u : Undo) → destination i ≡ r → (stored i m.x).address ≡ 0 → (stored i m.x).count ≡ 0
    → IsKept i m u → Plain r m u
plain i r m u d a c k = record {
  pc = k.pc;
  register = k.register ∙ d;
  value_is = k.value_is ∙ ap (λ (q : ℕ). value q m) d;
  address = k.address ∙ a;
  bytes = none_taken u (k.count ∙ c);
}

pub undoes : (i : Instr) (m : Machine) (u : Undo) → IsKept i m u → BackFrom u m (effect_of i m)
undoes (Lui rd imm) m u k = gives_back rd _ m u (plain (Lui rd imm) rd m u refl refl refl k)
undoes (Auipc rd imm) m u k = gives_back rd _ m u (plain (Auipc rd imm) rd m u refl refl refl k)
undoes (Jal rd offset) m u k = jumps_back rd _ m u (plain (Jal rd offset) rd m u refl refl refl k)
undoes (Jalr rd rs1 imm) m u k = jumps_back rd _ m u (plain (Jalr rd rs1 imm) rd m u refl refl refl k)
undoes (Beq rs1 rs2 offset) m u k = branches_back _ offset m u (plain (Beq rs1 rs2 offset) 0 m u refl refl refl k)
undoes (Bne rs1 rs2 offset) m u k = branches_back _ offset m u (plain (Bne rs1 rs2 offset) 0 m u refl refl refl k)
undoes (Blt rs1 rs2 offset) m u k = branches_back _ offset m u (plain (Blt rs1 rs2 offset) 0 m u refl refl refl k)
undoes (Bge rs1 rs2 offset) m u k = branches_back _ offset m u (plain (Bge rs1 rs2 offset) 0 m u refl refl refl k)
undoes (Bltu rs1 rs2 offset) m u k = branches_back _ offset m u (plain (Bltu rs1 rs2 offset) 0 m u refl refl refl k)
undoes (Bgeu rs1 rs2 offset) m u k = branches_back _ offset m u (plain (Bgeu rs1 rs2 offset) 0 m u refl refl refl k)
undoes (Lb rd rs1 imm) m u k =
    loads_back (fault_at m.memory 1 (sum (value rs1 m) imm) 1) rd _ m u (plain (Lb rd rs1 imm) rd m u refl refl refl k)
undoes (Lh rd rs1 imm) m u k =
    loads_back (fault_at m.memory 2 (sum (value rs1 m) imm) 2) rd _ m u (plain (Lh rd rs1 imm) rd m u refl refl refl k)
undoes (Lw rd rs1 imm) m u k =
    loads_back (fault_at m.memory 4 (sum (value rs1 m) imm) 4) rd _ m u (plain (Lw rd rs1 imm) rd m u refl refl refl k)
undoes (Lbu rd rs1 imm) m u k =
    loads_back (fault_at m.memory 1 (sum (value rs1 m) imm) 1) rd _ m u (plain (Lbu rd rs1 imm) rd m u refl refl refl k)
undoes (Lhu rd rs1 imm) m u k =
    loads_back (fault_at m.memory 2 (sum (value rs1 m) imm) 2) rd _ m u (plain (Lhu rd rs1 imm) rd m u refl refl refl k)
undoes (Sb rs1 rs2 imm) m u k =
    stores_back (sum (value rs1 m) imm) 0 (value rs2 m % 256 ∷ []) m u refl
    (record { pc = k.pc; register = k.register; address_is = k.address; bytes = k.bytes })
undoes (Sh rs1 rs2 imm) m u k =
    stores_back (sum (value rs1 m) imm) 1 (halfword_bytes (value rs2 m)) m u refl
    (record { pc = k.pc; register = k.register; address_is = k.address; bytes = k.bytes })
undoes (Sw rs1 rs2 imm) m u k =
    stores_back (sum (value rs1 m) imm) 3 (word_bytes (value rs2 m)) m u refl
    (record { pc = k.pc; register = k.register; address_is = k.address; bytes = k.bytes })
undoes (Addi rd rs1 imm) m u k = gives_back rd _ m u (plain (Addi rd rs1 imm) rd m u refl refl refl k)
undoes (Slti rd rs1 imm) m u k = gives_back rd _ m u (plain (Slti rd rs1 imm) rd m u refl refl refl k)
undoes (Sltiu rd rs1 imm) m u k = gives_back rd _ m u (plain (Sltiu rd rs1 imm) rd m u refl refl refl k)
undoes (Xori rd rs1 imm) m u k = gives_back rd _ m u (plain (Xori rd rs1 imm) rd m u refl refl refl k)
undoes (Ori rd rs1 imm) m u k = gives_back rd _ m u (plain (Ori rd rs1 imm) rd m u refl refl refl k)
undoes (Andi rd rs1 imm) m u k = gives_back rd _ m u (plain (Andi rd rs1 imm) rd m u refl refl refl k)
undoes (Slli rd rs1 shamt) m u k = gives_back rd _ m u (plain (Slli rd rs1 shamt) rd m u refl refl refl k)
undoes (Srli rd rs1 shamt) m u k = gives_back rd _ m u (plain (Srli rd rs1 shamt) rd m u refl refl refl k)
undoes (Srai rd rs1 shamt) m u k = gives_back rd _ m u (plain (Srai rd rs1 shamt) rd m u refl refl refl k)
undoes (Add rd rs1 rs2) m u k = gives_back rd _ m u (plain (Add rd rs1 rs2) rd m u refl refl refl k)
undoes (Sub rd rs1 rs2) m u k = gives_back rd _ m u (plain (Sub rd rs1 rs2) rd m u refl refl refl k)
undoes (Sll rd rs1 rs2) m u k = gives_back rd _ m u (plain (Sll rd rs1 rs2) rd m u refl refl refl k)
undoes (Slt rd rs1 rs2) m u k = gives_back rd _ m u (plain (Slt rd rs1 rs2) rd m u refl refl refl k)
undoes (Sltu rd rs1 rs2) m u k = gives_back rd _ m u (plain (Sltu rd rs1 rs2) rd m u refl refl refl k)
undoes (Xor rd rs1 rs2) m u k = gives_back rd _ m u (plain (Xor rd rs1 rs2) rd m u refl refl refl k)
undoes (Srl rd rs1 rs2) m u k = gives_back rd _ m u (plain (Srl rd rs1 rs2) rd m u refl refl refl k)
undoes (Sra rd rs1 rs2) m u k = gives_back rd _ m u (plain (Sra rd rs1 rs2) rd m u refl refl refl k)
undoes (Or rd rs1 rs2) m u k = gives_back rd _ m u (plain (Or rd rs1 rs2) rd m u refl refl refl k)
undoes (And rd rs1 rs2) m u k = gives_back rd _ m u (plain (And rd rs1 rs2) rd m u refl refl refl k)
undoes (Fence fm before after rd rs1) m u k = λ _. next_back (sum m.pc 4) m u (plain (Fence fm before after rd rs1) 0 m u refl refl refl k)
undoes Ecall m u k = calls_back m u (plain Ecall 0 m u refl refl refl k)
undoes Ebreak m u k = λ _. next_back (sum m.pc 4) m u (plain Ebreak 0 m u refl refl refl k)

-- ---- the move that comes next

pub kept_undoes : (i : Instr) (m : Machine) (u : Undo) → IsDecodedAtPc m (Some i) → IsKept i m u → Undoes u m
kept_undoes i m u d k e moves =
    let so : MatchResult (word_at m.memory m.pc)
    (λ word. ((j : Instr) → Encodes j word → e ≡ effect_of j m) × (IsIllegal word → e ≡ trapped Illegal m))
    (λ f. e ≡ fetch_fault f m) = moves in
    let there : ((j : Instr) → Encodes j d.0 → e ≡ effect_of j m) × (IsIllegal d.0 → e ≡ trapped Illegal m) =
    subst (λ (w : Result ℕ MemFault). MatchResult w
    (λ word. ((j : Instr) → Encodes j word → e ≡ effect_of j m) × (IsIllegal word → e ≡ trapped Illegal m))
    (λ f. e ≡ fetch_fault f m)) d.1.0 so in
    subst (λ (x : Effect). BackFrom u m x) (sym (there.0 i d.1.1)) (undoes i m u k)

-- an illegal word does not retire
pub nothing_undoes : (m : Machine) (u : Undo) → IsDecodedAtPc m None → Undoes u m
nothing_undoes m u d e moves =
    let so : MatchResult (word_at m.memory m.pc)
    (λ word. ((j : Instr) → Encodes j word → e ≡ effect_of j m) × (IsIllegal word → e ≡ trapped Illegal m))
    (λ f. e ≡ fetch_fault f m) = moves in
    let there : ((j : Instr) → Encodes j d.0 → e ≡ effect_of j m) × (IsIllegal d.0 → e ≡ trapped Illegal m) =
    subst (λ (w : Result ℕ MemFault). MatchResult w
    (λ word. ((j : Instr) → Encodes j word → e ≡ effect_of j m) × (IsIllegal word → e ≡ trapped Illegal m))
    (λ f. e ≡ fetch_fault f m)) d.1.0 so in
    subst (λ (x : Effect). BackFrom u m x) (sym (there.1 d.1.1)) (λ t. absurd (let no : false ≡ true = t in cc))
