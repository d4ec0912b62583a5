-- A position and its past, after a move and after one that is undone.
use Rattle.course.proofs.Common.{[], AllAreKept, ap, arith, CanBeKept, CanBeUnmade, Course, course_of, drop, Err, fault_at, GoesBy, GoesOn, gone_back, Halts, Hart, IsOfStore, kept_of_pc, length, length-take, List, Machine, machine_in, memory_after, Move, None, Ok, past_of, Position, position_at, PutsInBlank, recorded, refl, Result, slice_get, Some, StoredInBlank, subst, suc, sym, take, Undo, undo_in, undone, UndoNeedsPage, unmade, with_bytes, with_register, zero, ℕ, ◌+◌, ◌<◌, ◌∙◌, ◌∷◌, ◌≡◌, ◌≤◌}
use Rattle.rv32i.specs.declared.performing.Halt.{Halt}
use Rattle.course.proofs.Making.{unmade_is}
use Rattle.course.proofs.Moving.{harts_equal}

-- ---- the past of moves

pub length_past : (moves : List Move) (p : Position) → length (past_of moves p) ≡ length moves
length_past [] p = refl
length_past (move ∷ moves) p = ap suc (length_past moves (unmade move p))

past_take : (n : ℕ) (moves : List Move) (p : Position) → past_of (take n moves) p ≡ take n (past_of moves p)
past_take zero moves p = refl
past_take (suc n) [] p = refl
past_take (suc n) (move ∷ moves) p = ap (λ (l : List Position). unmade move p ∷ l) (past_take n moves (unmade move p))

all_take : (n : ℕ) (moves : List Move) (p : Position) → AllAreKept moves p → AllAreKept (take n moves) p
all_take zero moves p h = tt
all_take (suc n) [] p h = tt
all_take (suc n) (move ∷ moves) p h = (h.0, (h.1.0, all_take n moves (unmade move p) h.1.1))

-- it does not depend on the pc now
unmade_at : (move : Move) (pc : ℕ) (p : Position) → unmade move (position_at pc p) ≡ unmade move p
unmade_at move pc p =
    let hart : (unmade move (position_at pc p)).hart ≡ (unmade move p).hart = harts_equal _ _ refl refl in
    ap (λ (h : Hart). record (unmade move p) { hart = h }) hart

pub same_past : (moves : List Move) (pc : ℕ) (p : Position) → past_of moves (position_at pc p) ≡ past_of moves p
same_past [] pc p = refl
same_past (move ∷ moves) pc p = ap (λ (q : Position). q ∷ past_of moves q) (unmade_at move pc p)

-- what is kept of a move, and of those before it
abbrev KeptFrom : Move → List Move → Position → Type 0
KeptFrom move moves q = CanBeKept q.calls × (IsOfStore move q × AllAreKept moves q)

pub all_at : (moves : List Move) (pc : ℕ) (p : Position) → AllAreKept moves p → AllAreKept moves (position_at pc p)
all_at [] pc p h = tt
all_at (move ∷ moves) pc p h = subst (KeptFrom move moves) (sym (unmade_at move pc p)) h

-- ---- a move more

pub went : (moves more : List Move) (move : Move) (before after : Position) (at : ℕ) → more ≡ take 65536 (move ∷ moves)
    → unmade move after ≡ position_at at before → past_of more after ≡ recorded at (course_of before moves)
went moves more move before after at e u =
    ap (λ (l : List Move). past_of l after) e
    ∙ past_take 65536 (move ∷ moves) after
    ∙ ap (λ (p : Position). take 65536 (p ∷ past_of moves p)) u
    ∙ ap (λ (l : List Position). take 65536 (position_at at before ∷ l)) (same_past moves at before)

pub all_kept : (moves more : List Move) (move : Move) (before after : Position) (at : ℕ) → more ≡ take 65536 (move ∷ moves)
    → unmade move after ≡ position_at at before → CanBeKept before.calls → IsOfStore move (position_at at before)
    → AllAreKept moves before → AllAreKept more after
all_kept moves more move before after at e u fits stored all =
    subst (λ (l : List Move). AllAreKept l after) (sym e)
    (all_take 65536 (move ∷ moves) after (subst (KeptFrom move moves) (sym u) (fits, (stored, all_at moves at before all))))

-- ---- a move that changes pc alone

only_pc : (u : Undo) (m : Machine) → u.register ≡ 0 → u.address ≡ 0 → u.count ≡ 0 → undone u m ≡ record m { pc = u.pc }
only_pc u m r a n = λ j. record {
  pc = u.pc;
  x = with_register (r j) u.value m.x;
  memory = memory_after (fault_at m.memory 1 (a j) (length (take (n j) u.bytes)))
      (with_bytes m.memory (a j) (take (n j) u.bytes)) m.memory;
}

pub stepped_back : (next : ℕ) (p : Position) → unmade (kept_of_pc p.hart.pc) (position_at next p) ≡ position_at p.hart.pc p
stepped_back next p =
    unmade_is (kept_of_pc p.hart.pc) p (position_at next p) p.hart.pc
    (only_pc (undo_in (kept_of_pc p.hart.pc)) (machine_in (position_at next p)) refl refl refl) refl

-- ---- the newest move is undone

few_taken : (n : ℕ) (bytes : List ℕ) → length (take n bytes) ≤ n
few_taken n bytes = omega (arith, length-take n bytes)

first_is : (l : List Move) (x : Move) → slice_get l 0 ≡ Some x → l ≡ x ∷ drop 1 l
first_is [] x e = absurd (cc)
first_is (y ∷ l) x e = let same : y ≡ x = cc in ap (λ (z : Move). z ∷ l) same

-- a byte that it puts back is one over which its instruction stored
in_blank : (move : Move) (now : Position) → IsOfStore move (unmade move now) → PutsInBlank (undo_in move) now.memory
    → StoredInBlank (machine_in (unmade move now)) now.memory
in_blank move now stored needs =
    let u : Undo = undo_in move in
    let few : length (take u.count u.bytes) ≤ u.count = few_taken u.count u.bytes in
    let from : u.address ≤ needs.at = needs.from in
    let below : needs.at < u.address + length (take u.count u.bytes) = needs.below in
    let some : 1 ≤ u.count = omega (arith, few, from, below) in
    let s = stored some in
    let by = s.1.1 in
    let address : u.address ≡ by.store.address = by.address in
    let count : u.count ≡ length by.store.bytes = by.count in
    record {
      instr = s.0;
      decoded = s.1.0;
      store = by.store;
      stores = by.stores;
      at = needs.at;
      from = omega (arith, from, address);
      below = omega (arith, below, few, address, count);
      blank = needs.blank;
    }

pub record Newest (moves : List Move) (move : Move) (now : Position) : Type 0 where
  pub fits : CanBeUnmade move now
  pub rest : AllAreKept (drop 1 moves) (unmade move now)
  pub back : gone_back (course_of now moves) ≡ course_of (unmade move now) (drop 1 moves)
  pub lacks : PutsInBlank (undo_in move) now.memory → UndoNeedsPage (past_of moves now) now.memory

pub newest : (moves : List Move) (move : Move) (now : Position) → slice_get moves 0 ≡ Some move → AllAreKept moves now
    → Newest moves move now
newest moves move now e h =
    let is = first_is moves move e in
    let all : AllAreKept (move ∷ drop 1 moves) now = subst (λ (l : List Move). AllAreKept l now) is h in
    subst (λ (l : List Move). Newest l move now) (sym is)
    (record { fits = all.0; rest = all.1.1; back = refl; lacks = in_blank move now all.1.0 })

pub none_back : (moves : List Move) (now : Position) → slice_get moves 0 ≡ None → course_of now moves ≡ gone_back (course_of now moves)
none_back [] now e = refl
none_back (move ∷ moves) now e = absurd (cc)

-- ---- another pc

pub settled : (p : Position) (moves : List Move) (pc : ℕ)
    → course_of (position_at pc p) moves ≡ record { now = position_at pc p; past = past_of moves p }
settled p moves pc = ap (λ (l : List Position). record { now = position_at pc p; past = l }) (same_past moves pc p)

-- ---- an instruction goes by what is recorded

-- it leaves all that can be undone, and the past is as it is to be
pub record Gone (at : ℕ) (now : Course) (result : Result ℕ Halt) (after : Position) (more : List Move) : Type 0 where
  pub kept : AllAreKept more after
  pub goes : GoesOn at now result (course_of after more)

pub gone : (at : ℕ) (before after : Position) (now : Course) (moves more : List Move) (result : Result ℕ Halt)
    → course_of before moves ≡ now → AllAreKept moves before → GoesBy at before moves result after more
    → Gone at now result after more
gone at before after now moves more (Ok next) is k g = record {
  kept = all_kept moves more g.0 before after at g.1.1 g.1.0.undoes g.1.0.kept g.1.0.stored k;
  goes = subst (λ (x : Course). GoesOn at x (Ok next) (course_of after more)) is
      (g.1.0.retires, went moves more g.0 before after at g.1.1 g.1.0.undoes);
}
gone at before after now moves more (Err halt) is k g =
    let same : course_of after more ≡ course_of before moves = λ j. course_of (g.1.0 j) (g.1.1 j) in
    record {
      kept = subst (λ (l : List Move). AllAreKept l after) (sym g.1.1) (subst (AllAreKept moves) (sym g.1.0) k);
      goes = subst (λ (x : Course). Halts at halt x.now × (course_of after more ≡ x)) is (g.0, same);
    }
