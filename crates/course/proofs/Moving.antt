-- An instruction that was decoded is carried out: that is the move.
use Rattle.course.proofs.Common.{[], ap, AreKnown, arith, Bool, branches, calls, cond, Effect, effect_of, Entry, eqb, Err, false, fault_at, forgotten, get_or, halfword_bytes, Halts, Hart, Instr, is_link, is_plain, IsDecodedAtPc, IsFetched, IsMove, IsReady, jalr_marks, jumps, Kept, Knows, Lacks, length, linked, List, loads_unless, Machine, machine_at, MemFault, Misaligned, NoMemory as NoRoom, None, not, noted, Ok, Option, Outside, Performs, place_of, Pop, pops_in, Position, Push, pushes_in, refl, retired, Retires, Says, signed, slice_index, Some, Store, store_of, stored_at, stores_in, stores_unless, subst, sum, sym, trapped, Traps, true, value, with_bytes, with_mark_if, with_marks, word_at, word_bytes, ℕ, ◌%◌, ◌&&◌, ◌*◌, ◌+◌, ◌/◌, ◌∙◌, ◌∷◌, ◌≡◌, ◌≤◌}
use Rattle.std.proofs.Math.Nat.{ℕ_set}
use Rattle.rv32i.specs.declared.instr.Instr.TheVariants.{Jal, Jalr, Beq, Bne, Blt, Bge, Bltu, Bgeu, Lb, Lh, Lw, Lbu, Lhu, Sb, Sh, Sw, Ecall, Ebreak}
use Rattle.rv32i.specs.declared.performing.Halt.{Halt}
use Rattle.rv32i.specs.declared.performing.Halt.TheVariants.{Stopped, NoMemory, Calls, Breaks}
use Rattle.rv32i.specs.declared.stepped.Cause.{Cause}
use Rattle.rv32i.specs.declared.stepped.Cause.TheVariants.{JumpMisaligned, UnknownCall}
use Rattle.rv32i.specs.declared.stepped.Stepped.TheVariants.{Retired, Printed, Exit, Trap}
use Rattle.rv32i.proofs.Keeps.{step_keeps}
use Rattle.rv32i.proofs.Moves.{moves}
use Rattle.course.proofs.Others.{aligned_there, fetched}
use Rattle.course.proofs.Remembering.{known_forgotten, known_from, known_written, knows_of}

-- ---- what is remembered is the decoding

pub decoded_at : (p : Position) (at : ℕ) (e : Entry) → Knows p.memory e → e.pc ≡ at → IsDecodedAtPc (machine_at at p) (Some e.instr)
decoded_at p at e n named = (n.word, (ap (word_at p.memory) (sym named) ∙ n.there, n.encodes))

pub decoded_is_fetched : (m : Machine) (instr : Option Instr) → IsDecodedAtPc m instr → IsFetched m instr
decoded_is_fetched m instr d = rw d.1.0 d.1.1

is_move : (m : Machine) (i : Instr) (effect : Effect) → IsDecodedAtPc m (Some i) → effect ≡ effect_of i m → IsMove m effect
is_move m i effect d h = moves m effect d.0 i (sym d.1.0) d.1.1 h

-- what is remembered of an address
pub record Found (p : Position) (at : ℕ) (es : List Entry) (e : Entry) : Type 0 where
  pub known : AreKnown p.memory 0 0 es
  pub knows : Knows p.memory e
  pub named : e.pc ≡ at

pub found : (p : Position) (at : ℕ) (before es : List Entry) (e : Entry) → AreKnown p.memory 0 0 before → IsReady p.memory at before es
    → e ≡ get_or es (place_of at) e → Found p at es e
found p at before es e c r is =
    let known = r.known c in
    let named : e.pc ≡ at = ap (λ (x : Entry). x.pc) is ∙ r.named e in
    record { known = known; knows = knows_of p.memory at es e known r.fits is named; named = named }

-- ---- an instruction halts

-- it says why, and nothing has changed
pub record Stays (halt : Halt) (i : Instr) (m : Machine) (x memory : List ℕ) : Type 0 where
  pub says : Says halt (Some i) m
  pub registers : x ≡ m.x
  pub bytes : memory ≡ m.memory

stopped : (m k : Machine) (i : Instr) (cause : Cause) → IsDecodedAtPc m (Some i)
    → effect_of i m ≡ record { answer = Ok (Trap cause); machine = k }
    → (k ≡ m) × IsMove m (trapped cause m)
stopped m k i cause d h =
    let same : k ≡ m = (step_keeps m (record { answer = Ok (Trap cause); machine = k }) i (sym h)).unchanged in
    (same, is_move m i (trapped cause m) d (ap (λ (j : Machine). trapped cause j) (sym same) ∙ sym h))

lacks : (m : Machine) (i : Instr) (x memory : List ℕ) → IsDecodedAtPc m (Some i) → (store : Option Store) → store_of i m ≡ store
    → Lacks store i m x memory → Stays NoMemory i m x memory
lacks m i x memory d (Some store) e h = record {
  says = record { instr = i; decoded = d; store = record { store = store; stores = e; needs = h.0 } };
  registers = h.1.0;
  bytes = h.1.1;
}
lacks m i x memory d None e h = absurd h

stays : (m : Machine) (i : Instr) (halt : Halt) (x memory : List ℕ) → IsDecodedAtPc m (Some i) → Performs i m (Err halt) x memory
    → Stays halt i m x memory
stays m i (Stopped cause) x memory d h =
    let s = stopped m (record { pc = m.pc; x = x; memory = memory }) i cause d h in
    record { says = s.1; registers = ap (λ (k : Machine). k.x) s.0; bytes = ap (λ (k : Machine). k.memory) s.0 }
stays m i NoMemory x memory d h = lacks m i x memory d (store_of i m) refl h
stays m i Calls x memory d h = record {
  says = (ap (λ (j : Instr). Some j) h.0, is_move m i (effect_of Ecall m) d (ap (λ (j : Instr). effect_of j m) (sym h.0)));
  registers = h.1;
  bytes = h.2;
}
stays m i Breaks x memory d h = record {
  says = (ap (λ (j : Instr). Some j) h.0, is_move m i (effect_of Ebreak m) d (ap (λ (j : Instr). effect_of j m) (sym h.0)));
  registers = h.1;
  bytes = h.2;
}

pub halts : (p : Position) (at : ℕ) (e : Entry) (halt : Halt) (x memory : List ℕ) → Knows p.memory e → e.pc ≡ at
    → Performs e.instr (machine_at at p) (Err halt) x memory → Halts at halt p × Stays halt e.instr (machine_at at p) x memory
halts p at e halt x memory n named h =
    let d = decoded_at p at e n named in
    let s = stays (machine_at at p) e.instr halt x memory d h in
    (record { instr = Some e.instr; fetched = decoded_is_fetched (machine_at at p) (Some e.instr) d; says = s.says }, s)

-- no instruction is fetched
pub traps : (p : Position) (at : ℕ) (cause : Cause) → Traps p.memory at cause → Halts at (Stopped cause) p
traps p at cause t = record { instr = None; fetched = t.fetched p.hart.x; says = t.moves p.hart.x }

-- ---- harts with the same pc and registers are equal

abbrev hart_of : (pc : ℕ) (x : List ℕ) → slice_index x 0 ≡ 0 → Hart
hart_of pc x fact = record { pc = pc; x = x; zero = fact }

abbrev Equal : ℕ → List ℕ → (h : Hart) → Type 0
Equal pc x h = (fact : slice_index x 0 ≡ 0) → h ≡ hart_of pc x fact

pub harts_equal : (h g : Hart) → h.pc ≡ g.pc → h.x ≡ g.x → h ≡ g
harts_equal h g p x =
    let same : Equal h.pc h.x h = λ fact. ap (hart_of h.pc h.x) (ℕ_set (slice_index h.x 0) 0 h.zero fact) in
    let registers : Equal h.pc g.x h = subst (λ (l : List ℕ). Equal h.pc l h) x same in
    let all : Equal g.pc g.x h = subst (λ (n : ℕ). Equal n g.x h) p registers in
    all g.zero

-- nothing has changed
pub same_position : (p now : Position) (h : Hart) (memory : List ℕ) → p ≡ now → h.pc ≡ p.hart.pc → h.x ≡ p.hart.x → memory ≡ p.memory
    → record { hart = h; memory = memory; calls = p.calls } ≡ now
same_position p now h memory is pcs xs ms =
    let same = harts_equal h p.hart pcs xs in
    let all : record { hart = h; memory = memory; calls = p.calls } ≡ p = λ j. record { hart = same j; memory = ms j; calls = p.calls } in
    all ∙ is

-- or the pc alone
pub with_pc : (p now : Position) (h : Hart) → p ≡ now → h.x ≡ p.hart.x
    → record { hart = h; memory = p.memory; calls = p.calls } ≡ record now { hart = record now.hart { pc = h.pc } }
with_pc p now h is xs =
    let same = harts_equal h (record p.hart { pc = h.pc }) refl xs in
    ap (λ (g : Hart). record p { hart = g }) same ∙ ap (λ (q : Position). record q { hart = record q.hart { pc = h.pc } }) is

-- ---- an instruction retires

retires_from : (p q : Position) (at next : ℕ) (e : Entry) → Knows p.memory e → e.pc ≡ at
    → Performs e.instr (machine_at at p) (Ok next) q.hart.x q.memory → q.calls ≡ noted p.calls e.instr at → q.hart.pc ≡ p.hart.pc
    → Retires at next p q
retires_from p q at next e n named h c same =
    let d = decoded_at p at e n named in
    let al : at % 4 ≡ 0 = ap (λ a. a % 4) (sym named) ∙ aligned_there p.memory 4 e.pc 4 (fetched p.memory e.pc n.word n.there) in
    record {
      instr = e.instr;
      decoded = d;
      moves = is_move (machine_at at p) e.instr (record { answer = Ok Retired; machine = machine_at next q }) d (sym h);
      aligned = (step_keeps (machine_at at p) (record { answer = Ok Retired; machine = machine_at next q }) e.instr (sym h)).aligned al;
      calls = c;
      pc = same;
    }

pub retires : (p now q : Position) (at next : ℕ) (e : Entry) → p ≡ now → Knows p.memory e → e.pc ≡ at
    → Performs e.instr (machine_at at p) (Ok next) q.hart.x q.memory → q.calls ≡ noted p.calls e.instr at → q.hart.pc ≡ p.hart.pc
    → Retires at next now q
retires p now q at next e is n named h c same =
    subst (λ (o : Position). Retires at next o q) is (retires_from p q at next e n named h c same)

-- ---- the calls after a move

-- what stores leaves no marks
pub unmarked_store : (kept : Kept) (i : Instr) (pc : ℕ) → stores_in i ≡ true → kept ≡ noted kept i pc
unmarked_store kept (Sb rs1 rs2 imm) pc e = refl
unmarked_store kept (Sh rs1 rs2 imm) pc e = refl
unmarked_store kept (Sw rs1 rs2 imm) pc e = refl
unmarked_store kept i pc e = absurd (let never : false ≡ true = e in cc)

-- neither does a plain instruction, which doesn't store
pub record Plain (kept : Kept) (i : Instr) (pc : ℕ) : Type 0 where
  pub stores : stores_in i ≡ false
  pub calls : kept ≡ noted kept i pc

pub plain : (kept : Kept) (i : Instr) (pc : ℕ) → is_plain i ≡ true → Plain kept i pc
plain kept (Sb rs1 rs2 imm) pc e = absurd (let never : false ≡ true = e in cc)
plain kept (Sh rs1 rs2 imm) pc e = absurd (let never : false ≡ true = e in cc)
plain kept (Sw rs1 rs2 imm) pc e = absurd (let never : false ≡ true = e in cc)
plain kept (Jal rd offset) pc e = by (is_link rd) refl e where
  by : (a : Bool) → is_link rd ≡ a → not a ≡ true → Plain kept (Jal rd offset) pc
  by true p e = absurd (let never : false ≡ true = e in cc)
  by false p e = record { stores = refl; calls = rw p refl }
plain kept (Jalr rd rs1 imm) pc e = by (is_link rd) refl (is_link rs1) refl e where
  by : (a : Bool) → is_link rd ≡ a → (b : Bool) → is_link rs1 ≡ b → not a && not b ≡ true → Plain kept (Jalr rd rs1 imm) pc
  by true p b q e = absurd (let never : false ≡ true = e in cc)
  by false p true q e = absurd (let never : false ≡ true = e in cc)
  by false p false q e = record { stores = refl; calls = rw (p, q) refl }
plain kept i pc e = record { stores = refl; calls = refl }

-- a return and a call, where it is one
jumped : (kept : Kept) (i : Instr) (pc : ℕ) → with_mark_if (pushes_in i) (Push pc) (with_mark_if (pops_in i) Pop kept) ≡ noted kept i pc
jumped kept (Jal rd offset) pc = by (is_link rd) where
  by : (a : Bool) → with_mark_if a (Push pc) kept ≡ with_marks kept (cond a (Push pc ∷ []) [])
  by true = refl
  by false = refl
jumped kept (Jalr rd rs1 imm) pc = by (is_link rd) (is_link rs1) (eqb rd rs1) where
  by : (a b c : Bool) → with_mark_if a (Push pc) (with_mark_if (b && not (a && c)) Pop kept) ≡ with_marks kept (jalr_marks a b c pc)
  by true true true = refl
  by true true false = refl
  by true false c = refl
  by false true c = refl
  by false false c = refl
jumped kept i pc = refl

pub marked : (kept after : Kept) (e : Entry) (memory : List ℕ) (pc : ℕ) → Knows memory e
    → after ≡ with_mark_if e.pushes (Push pc) (with_mark_if e.pops Pop kept) → after ≡ noted kept e.instr pc
marked kept after e memory pc n marks =
    marks
    ∙ ap (λ (b : Bool). with_mark_if b (Push pc) (with_mark_if e.pops Pop kept)) n.pushes
    ∙ ap (λ (b : Bool). with_mark_if (pushes_in e.instr) (Push pc) (with_mark_if b Pop kept)) n.pops
    ∙ jumped kept e.instr pc

-- ---- memory after a move

abbrev Leaves : Machine → Effect → Type 0
Leaves m e = e.machine.memory ≡ m.memory

jumps_leave : (target rd : ℕ) (m : Machine) → Leaves m (jumps target m (linked rd m))
jumps_leave target rd m = by (eqb (target % 4) 0) where
  by : (b : Bool) → Leaves m (cond b (retired target (linked rd m)) (trapped JumpMisaligned m))
  by true = refl
  by false = refl

branch_leaves : (target : ℕ) (m : Machine) → Leaves m (jumps target m m)
branch_leaves target m = by (eqb (target % 4) 0) where
  by : (b : Bool) → Leaves m (cond b (retired target m) (trapped JumpMisaligned m))
  by true = refl
  by false = refl

branches_leave : (taken : Bool) (offset : ℕ) (m : Machine) → Leaves m (branches taken offset m)
branches_leave true offset m = branch_leaves (sum m.pc offset) m
branches_leave false offset m = refl

loads_leave : (fault : Option MemFault) (rd v : ℕ) (m : Machine) → Leaves m (loads_unless fault rd v m)
loads_leave None rd v m = refl
loads_leave (Some Misaligned) rd v m = refl
loads_leave (Some Outside) rd v m = refl
loads_leave (Some NoRoom) rd v m = refl

calls_leave : (m : Machine) → Leaves m (calls m)
calls_leave m = by (eqb (value 17 m) 93) (eqb (value 17 m) 1) where
  by : (s t : Bool) → Leaves m
      (cond s (record { answer = Ok (Exit (signed (value 10 m))); machine = m })
      (cond t (record { answer = Ok (Printed (signed (value 10 m))); machine = record m { pc = sum m.pc 4 } }) (trapped UnknownCall m)))
  by true t = refl
  by false true = refl
  by false false = refl

leaves : (i : Instr) (m : Machine) → stores_in i ≡ false → Leaves m (effect_of i m)
leaves (Jal rd offset) m e = jumps_leave _ rd m
leaves (Jalr rd rs1 imm) m e = jumps_leave _ rd m
leaves (Beq rs1 rs2 offset) m e = branches_leave _ offset m
leaves (Bne rs1 rs2 offset) m e = branches_leave _ offset m
leaves (Blt rs1 rs2 offset) m e = branches_leave _ offset m
leaves (Bge rs1 rs2 offset) m e = branches_leave _ offset m
leaves (Bltu rs1 rs2 offset) m e = branches_leave _ offset m
leaves (Bgeu rs1 rs2 offset) m e = branches_leave _ offset m
leaves (Lb rd rs1 imm) m e = loads_leave _ rd _ m
leaves (Lh rd rs1 imm) m e = loads_leave _ rd _ m
leaves (Lw rd rs1 imm) m e = loads_leave _ rd _ m
leaves (Lbu rd rs1 imm) m e = loads_leave _ rd _ m
leaves (Lhu rd rs1 imm) m e = loads_leave _ rd _ m
leaves (Sb rs1 rs2 imm) m e = absurd (let never : true ≡ false = e in cc)
leaves (Sh rs1 rs2 imm) m e = absurd (let never : true ≡ false = e in cc)
leaves (Sw rs1 rs2 imm) m e = absurd (let never : true ≡ false = e in cc)
leaves Ecall m e = calls_leave m
leaves i m e = refl

-- what stores nothing leaves memory as it was
pub kept : (i : Instr) (m : Machine) (next : ℕ) (x memory : List ℕ) → stores_in i ≡ false → Performs i m (Ok next) x memory
    → memory ≡ m.memory
kept i m next x memory e h = ap (λ (f : Effect). f.machine.memory) (sym h) ∙ leaves i m e

-- ---- a store

-- bytes of one word are written
pub record Stored (at : ℕ) (registers x before after : List ℕ) : Type 0 where
  pub bytes : List ℕ
  pub none : fault_at before (length bytes) at (length bytes) ≡ None
  pub is : after ≡ with_bytes before at bytes
  pub within : at % 4 + length bytes ≤ 4
  pub some : 1 ≤ length bytes
  pub same : x ≡ registers

stored_by : (fault : Option MemFault) (bytes : List ℕ) (at next : ℕ) (x memory : List ℕ) (m : Machine)
    → stores_unless fault bytes at m ≡ record { answer = Ok Retired; machine = record { pc = next; x = x; memory = memory } }
    → (fault ≡ None) × ((memory ≡ with_bytes m.memory at bytes) × (x ≡ m.x))
stored_by None bytes at next x memory m h =
    (refl, (ap (λ (f : Effect). f.machine.memory) (sym h), ap (λ (f : Effect). f.machine.x) (sym h)))
stored_by (Some Misaligned) bytes at next x memory m h = absurd (let never = ap (λ (f : Effect). f.answer) h in cc)
stored_by (Some Outside) bytes at next x memory m h = absurd (let never = ap (λ (f : Effect). f.answer) h in cc)
stored_by (Some NoRoom) bytes at next x memory m h = absurd (let never = ap (λ (f : Effect). f.answer) h in cc)

pub stored : (i : Instr) (m : Machine) (next : ℕ) (x memory : List ℕ) → stores_in i ≡ true → Performs i m (Ok next) x memory
    → Stored (stored_at i m.x) m.x x m.memory memory
stored (Sb rs1 rs2 imm) m next x memory e h =
    let s = stored_by _ (value rs2 m % 256 ∷ []) (sum (value rs1 m) imm) next x memory m h in
    record { bytes = value rs2 m % 256 ∷ []; none = s.0; is = s.1.0; within = omega arith; some = omega arith; same = s.1.1 }
stored (Sh rs1 rs2 imm) m next x memory e h =
    let s = stored_by _ (halfword_bytes (value rs2 m)) (sum (value rs1 m) imm) next x memory m h in
    let al : sum (value rs1 m) imm % 2 ≡ 0 = aligned_there m.memory 2 (sum (value rs1 m) imm) 2 s.0 in
    record { bytes = halfword_bytes (value rs2 m); none = s.0; is = s.1.0; within = omega (arith, al); some = omega arith; same = s.1.1 }
stored (Sw rs1 rs2 imm) m next x memory e h =
    let s = stored_by _ (word_bytes (value rs2 m)) (sum (value rs1 m) imm) next x memory m h in
    let al : sum (value rs1 m) imm % 4 ≡ 0 = aligned_there m.memory 4 (sum (value rs1 m) imm) 4 s.0 in
    record { bytes = word_bytes (value rs2 m); none = s.0; is = s.1.0; within = omega (arith, al); some = omega arith; same = s.1.1 }
stored i m next x memory e h = absurd (let never : false ≡ true = e in cc)

-- the other words are remembered rightly after it
pub known_stored : (at : ℕ) (registers x before after : List ℕ) (es : List Entry) → Stored at registers x before after
    → AreKnown before 0 0 es
    → AreKnown after 0 0 (forgotten (at / 4 * 4) es)
known_stored at registers x before after es s c =
    let a : ℕ = at / 4 * 4 in
    let whole : a % 4 ≡ 0 = omega arith in
    let low : a ≤ at = omega arith in
    let high : at + length s.bytes ≤ a + 4 = omega (arith, s.within) in
    subst (λ (m : List ℕ). AreKnown m 0 0 (forgotten (at / 4 * 4) es)) (sym s.is)
    (known_written before (length s.bytes) at a (a + 4) s.bytes (forgotten a es)
    (known_forgotten before a a es (known_from before 0 0 a es c) whole) s.none low high s.some whole)
