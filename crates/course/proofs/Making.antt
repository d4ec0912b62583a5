-- What is kept of a move that was made undoes it.
use Rattle.course.proofs.Common.{[], ap, AreKnown, arith, bytes_at, called_in, CanBeKept, deed_of, destination, Effect, Entry, Err, false, fault_at, halfword_bytes, Hart, Instr, IsKeptBy, IsMade, IsOfStore, IsOver, kept, Kept, kind_of, Knows, length, List, Machine, machine_at, machine_in, machine_of, MemFault, memory_after, Move, None, noted, Ok, OnErr, Option, Performs, placed, Position, position_at, refl, Result, Some, stored, stored_at, stores_in, subst, sum, sym, take, true, Undo, undo_in, undo_of, undone, unmade, unnoted, value, with_bytes, with_called, word_bytes, ℕ, ◌%◌, ◌*◌, ◌+◌, ◌/◌, ◌∙◌, ◌∷◌, ◌≡◌, ◌≤◌}
use Rattle.std.specs.Int.{to_le_bytes, w32}
use Rattle.rv32i.specs.declared.instr.Instr.TheVariants.{Sb, Sh, Sw}
use Rattle.rv32i.specs.declared.stepped.Stepped.TheVariants.{Retired}
use Rattle.rv32i.proofs.Undoing.{BackFrom, undoes}
use Rattle.course.specs.declared.calls.Called.{Called}
use Rattle.course.specs.declared.calls.Called.TheVariants.{Nothing}
use Rattle.course.specs.declared.moves.Deed.{Deed}
use Rattle.course.specs.declared.moves.Kind.{Kind}
use Rattle.course.specs.declared.moves.Kind.TheVariants as kind
use Rattle.course.proofs.Moving.{decoded_at, harts_equal, retires}
use Rattle.course.proofs.Remembering.{known_from, known_write}

-- what stores nothing has no place
record StoresNothing (i : Instr) (x : List ℕ) : Type 0 where
  address : (stored i x).address ≡ 0
  count : (stored i x).count ≡ 0

stores_nothing : (i : Instr) (x : List ℕ) → stores_in i ≡ false → StoresNothing i x
stores_nothing (Sb rs1 rs2 imm) x e = absurd (let never : true ≡ false = e in cc)
stores_nothing (Sh rs1 rs2 imm) x e = absurd (let never : true ≡ false = e in cc)
stores_nothing (Sw rs1 rs2 imm) x e = absurd (let never : true ≡ false = e in cc)
stores_nothing i x e = record { address = refl; count = refl }

-- nor has it a kind
no_kind : (i : Instr) → stores_in i ≡ false → kind_of i ≡ kind.Nothing
no_kind (Sb rs1 rs2 imm) e = absurd (let never : true ≡ false = e in cc)
no_kind (Sh rs1 rs2 imm) e = absurd (let never : true ≡ false = e in cc)
no_kind (Sw rs1 rs2 imm) e = absurd (let never : true ≡ false = e in cc)
no_kind i e = refl

-- what is kept of it is the register that it writes
plain_kept : (i : Instr) (m : Machine) (was : ℕ) (k : Kind) → stores_in i ≡ false → was ≡ value (destination i) m → kind.Nothing ≡ k
    → IsKeptBy (kept m.pc was (record { at = 0; register = destination i; kind = k })) i m
plain_kept i m was k none over e =
    let s = stores_nothing i m.x none in
    let deed : Kind → Deed = λ k. record { at = 0; register = destination i; kind = k } in
    let undo : Undo = undo_in (kept m.pc was (deed kind.Nothing)) in
    let by : IsKeptBy (kept m.pc was (deed kind.Nothing)) i m = record {
      undo = undo;
      kept = record {
        pc = refl;
        register = refl;
        value_is = over;
        address = sym s.address;
        count = sym s.count;
        bytes = λ there. ap (λ (n : ℕ). bytes_at m.memory (stored i m.x).address n) (sym s.count);
      };
      same = λ after. refl;
      called = refl;
      alone = λ _. refl;
      place = λ some. (let none : 1 ≤ 0 = some in absurd (omega (arith, none)));
    } in
    subst (λ (k : Kind). IsKeptBy (kept m.pc was (deed k)) i m) e by

pub plain_keeps : (e : Entry) (p : Position) (at was : ℕ) → IsOver was e.instr p.hart.x p.memory → Knows p.memory e
    → stores_in e.instr ≡ false → IsKeptBy (kept at was e.deed) e.instr (machine_at at p)
plain_keeps e p at was over n none =
    subst (λ (d : Deed). IsKeptBy (kept at was d) e.instr (machine_at at p)) (sym n.deed_is)
    (plain_kept e.instr (machine_at at p) was (kind_of e.instr) none (over.value none) (sym (no_kind e.instr none)))

-- what is kept of a store are the bytes that were there
abbrev store_of : Instr → Machine → ℕ → Undo
store_of i m was = record {
  pc = m.pc;
  value = value 0 m;
  address = (stored i m.x).address;
  bytes = to_le_bytes w32 was;
  register = 0;
  count = (stored i m.x).count;
}

store_kept : (i : Instr) (m : Machine) (was : ℕ) → IsOver was i m.x m.memory → stores_in i ≡ true
    → IsKeptBy (placed (stored_at i m.x) (kept m.pc was (deed_of i))) i m
store_kept (Sb rs1 rs2 imm) m was over e = record {
  undo = store_of (Sb rs1 rs2 imm) m was;
  kept = record { pc = refl; register = refl; value_is = refl; address = refl; count = refl; bytes = over.bytes refl };
  same = λ after. refl;
  called = refl;
  alone = λ none. absurd (let never : true ≡ false = none in cc);
  place = λ some. record {
    store = record { address = sum (value rs1 m) imm; bytes = value rs2 m % 256 ∷ [] };
    stores = refl;
    address = refl;
    count = refl;
  };
}
store_kept (Sh rs1 rs2 imm) m was over e = record {
  undo = store_of (Sh rs1 rs2 imm) m was;
  kept = record { pc = refl; register = refl; value_is = refl; address = refl; count = refl; bytes = over.bytes refl };
  same = λ after. refl;
  called = refl;
  alone = λ none. absurd (let never : true ≡ false = none in cc);
  place = λ some. record {
    store = record { address = sum (value rs1 m) imm; bytes = halfword_bytes (value rs2 m) };
    stores = refl;
    address = refl;
    count = refl;
  };
}
store_kept (Sw rs1 rs2 imm) m was over e = record {
  undo = store_of (Sw rs1 rs2 imm) m was;
  kept = record { pc = refl; register = refl; value_is = refl; address = refl; count = refl; bytes = over.bytes refl };
  same = λ after. refl;
  called = refl;
  alone = λ none. absurd (let never : true ≡ false = none in cc);
  place = λ some. record {
    store = record { address = sum (value rs1 m) imm; bytes = word_bytes (value rs2 m) };
    stores = refl;
    address = refl;
    count = refl;
  };
}
store_kept i m was over e = absurd (let never : false ≡ true = e in cc)

pub store_keeps : (e : Entry) (p : Position) (at was : ℕ) → IsOver was e.instr p.hart.x p.memory → Knows p.memory e
    → stores_in e.instr ≡ true → IsKeptBy (placed (stored_at e.instr p.hart.x) (kept at was e.deed)) e.instr (machine_at at p)
store_keeps e p at was over n some =
    subst (λ (d : Deed). IsKeptBy (placed (stored_at e.instr p.hart.x) (kept at was d)) e.instr (machine_at at p)) (sym n.deed_is)
    (store_kept e.instr (machine_at at p) was over some)

-- a position by what undoes the move that led away from it
pub unmade_is : (move : Move) (before after : Position) (at : ℕ) → undone (undo_in move) (machine_in after) ≡ machine_at at before
    → unnoted (called_in move) after.calls ≡ before.calls → unmade move after ≡ position_at at before
unmade_is move before after at m calls =
    let b = unmade move after in
    let hart = harts_equal b.hart (position_at at before).hart (ap (λ (x : Machine). x.pc) m) (ap (λ (x : Machine). x.x) m) in
    λ j. record { hart = hart j; memory = (ap (λ (x : Machine). x.memory) m) j; calls = calls j }

machine_back : (p q : Position) (at next : ℕ) (e : Entry) (move : Move) → IsKeptBy move e.instr (machine_at at p)
    → Performs e.instr (machine_at at p) (Ok next) q.hart.x q.memory → undone (undo_in move) (machine_in q) ≡ machine_at at p
machine_back p q at next e move kept performs =
    let led : Effect = record { answer = Ok Retired; machine = machine_at next q } in
    let back : BackFrom kept.undo (machine_at at p) led = subst (λ (x : Effect). BackFrom kept.undo (machine_at at p) x) performs
    (undoes e.instr (machine_at at p) kept.undo kept.kept) in
    kept.same (machine_in q) ∙ back refl

-- what it did to the calls leaves what undoes the hart
called_undo : (called : Called) (move : Move) (m : Machine) → called_in move ≡ Nothing → undo_in move ≡ undo_of move 0 0
    → undone (undo_in (with_called called move)) m ≡ undone (undo_in move) m
called_undo Nothing move m none plain = refl
called_undo _ move m none plain = ap (λ (u : Undo). undone u m) (sym plain)

called_as : (called : Called) (move : Move) → called_in move ≡ Nothing → called_in (with_called called move) ≡ called
called_as Nothing move none = none
called_as _ move none = refl

-- nor does it put bytes back
called_place : (called : Called) (move : Move) (q : Position) → IsOfStore move q → IsOfStore (with_called called move) q
called_place Nothing move q h = h
called_place _ move q h = λ some. (let none : 1 ≤ 0 = some in absurd (omega (arith, none)))

of_store : (p : Position) (at : ℕ) (e : Entry) (move : Move) → Knows p.memory e → e.pc ≡ at → IsKeptBy move e.instr (machine_at at p)
    → IsOfStore move (position_at at p)
of_store p at e move knows named kept some = (e.instr, (decoded_at p at e knows named, kept.place some))

pub makes : (p now q : Position) (at next : ℕ) (e : Entry) (move : Move) → p ≡ now → CanBeKept p.calls → Knows p.memory e → e.pc ≡ at
    → IsKeptBy move e.instr (machine_at at p) → Performs e.instr (machine_at at p) (Ok next) q.hart.x q.memory
    → q.calls ≡ noted p.calls e.instr at → q.hart.pc ≡ p.hart.pc → q.calls ≡ p.calls → IsMade at next now move q
makes p now q at next e move is fits knows named kept performs calls pc same = record {
  retires = retires p now q at next e is knows named performs calls pc;
  undoes =
      unmade_is move p q at (machine_back p q at next e move kept performs)
      (ap (λ (called : Called). unnoted called q.calls) kept.called ∙ same) ∙ ap (position_at at) is;
  stored = subst (λ (x : Position). IsOfStore move (position_at at x)) is (of_store p at e move knows named kept);
  kept = subst (λ (x : Position). CanBeKept x.calls) is fits;
}

-- a jump, which keeps what it did to the calls, too
pub jumps : (p now q : Position) (at next : ℕ) (e : Entry) (move : Move) (called : Called) → stores_in e.instr ≡ false
    → p ≡ now → CanBeKept p.calls → Knows p.memory e → e.pc ≡ at
    → IsKeptBy move e.instr (machine_at at p) → Performs e.instr (machine_at at p) (Ok next) q.hart.x q.memory
    → q.calls ≡ noted p.calls e.instr at → q.hart.pc ≡ p.hart.pc → unnoted called q.calls ≡ p.calls
    → IsMade at next now (with_called called move) q
jumps p now q at next e move called none is fits knows named kept performs calls pc back = record {
  retires = retires p now q at next e is knows named performs calls pc;
  undoes =
      unmade_is (with_called called move) p q at
      (called_undo called move (machine_in q) kept.called (kept.alone none) ∙ machine_back p q at next e move kept performs)
      (ap (λ (c : Called). unnoted c q.calls) (called_as called move kept.called) ∙ back) ∙ ap (position_at at) is;
  stored =
      subst (λ (x : Position). IsOfStore (with_called called move) (position_at at x)) is
      (called_place called move (position_at at p) (of_store p at e move knows named kept));
  kept = subst (λ (x : Position). CanBeKept x.calls) is fits;
}

-- ---- a move is undone

-- of an error it is said
pub on_err : {A E P : Type 0} (r : Result A E) → P → OnErr r P
on_err (Ok value) p = tt
on_err (Err error) p = p

-- what is left then is the position before it
pub unmade_by : (move : Move) (p : Position) (hart : Hart) (memory : List ℕ) (calls : Kept)
    → machine_of hart memory ≡ undone (undo_in move) (machine_in p) → calls ≡ unnoted (called_in move) p.calls
    → record { hart = hart; memory = memory; calls = calls } ≡ unmade move p
unmade_by move p hart memory calls m called =
    let b = unmade move p in
    let same = harts_equal hart b.hart (ap (λ (x : Machine). x.pc) m) (ap (λ (x : Machine). x.x) m) in
    λ j. record { hart = same j; memory = (ap (λ (x : Machine). x.memory) m) j; calls = called j }

-- bytes are put back where they lie, and else nothing is
known_put : (fault : Option MemFault) (m bytes : List ℕ) (at : ℕ) (es : List Entry) → fault_at m 1 at (length bytes) ≡ fault
    → AreKnown m (at / 4 * 4) (at + length bytes) es → AreKnown (memory_after fault (with_bytes m at bytes) m) 0 0 es
known_put None m bytes at es e known = known_write m 1 at bytes es known e
known_put (Some fault) m bytes at es e known = known_from m _ _ 0 es known

-- and the words over which it stored are forgotten, so all others are remembered rightly
pub known_undone : (u : Undo) (p : Position) (hart : Hart) (memory : List ℕ) (before after : List Entry) (count : ℕ)
    → AreKnown p.memory 0 0 before → machine_of hart memory ≡ undone u (machine_in p) → count ≡ length (take u.count u.bytes)
    → ((m : List ℕ) → AreKnown m 0 0 before → AreKnown m (u.address / 4 * 4) (u.address + count) after) → AreKnown memory 0 0 after
known_undone u p hart memory before after count known m long forgets =
    let bytes = take u.count u.bytes in
    let spared : AreKnown p.memory (u.address / 4 * 4) (u.address + length bytes) after = subst
    (λ (n : ℕ). AreKnown p.memory (u.address / 4 * 4) (u.address + n) after) long (forgets p.memory known) in
    subst (λ (l : List ℕ). AreKnown l 0 0 after) (sym (ap (λ (x : Machine). x.memory) m))
    (known_put (fault_at p.memory 1 u.address (length bytes)) p.memory bytes u.address after refl spared)
