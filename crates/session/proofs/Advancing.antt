-- Moves that leave nothing to tell are as many beats.
use Rattle.session.proofs.Common.{Advances, ap, arith, beat, beats_on, Bool, by_tick, Debugged, false, GoesQuietly, going, gone_back, inr, Instr, IsFree, IsTick, keepings, Kept, leb, lt-ltb, ltb, makes_move, Moved, moved, moved_as, moved_by, moves_by, nat_tests, next_beat, next_tick, None, not, Ok, Option, Outcome, Program, refl, same_Some, settled, SliceEnd, Slicing, Some, stays, Stepped, Stretches, suc, sym, the_tick, Tick, tick_of, true, true≢false, turns_back, zero, ℕ, ◌&&◌, ◌+◌, ◌<◌, ◌∙◌, ◌≡◌, ◌≤◌}
use Rattle.debuggee.specs.declared.program.Advanced.{Advanced}
use Rattle.debuggee.specs.declared.program.Advanced.TheVariants.{Spent, HasOutput, Stops, OutOfMemory}
use Rattle.session.specs.declared.event.SliceEnd.TheVariants as ending
use Rattle.session.proofs.Deciding.{free_beat}
use Rattle.session.proofs.Told.{with_one}

-- ---- what a move leaves

-- The check at the entry, the goal, and how many instructions have retired: one more, unless it goes back.
pub record Leaves (before after : Debugged) : Type 0 where
  pub due : after.check_due ≡ before.check_due
  pub goal : after.goal ≡ before.goal
  pub retired : turns_back before.goal ≡ false → after.retired ≡ before.retired + 1

settled_leaves : (before after : Debugged) (s : Stepped) (instr : Option Instr)
    → stays (tick_of s instr before.hart.pc (moved_as before after)).outcome ≡ false
    → after ≡ settled s instr before (moved_as before after) → Leaves before after
settled_leaves before after s instr e h = grind arith

back_leaves : (d : Debugged) → turns_back d.goal ≡ true → Leaves d (gone_back d)
back_leaves d turns = grind arith

tick_leaves : (before after : Debugged) (tick : Tick) → before.check_due ≡ false → stays tick.outcome ≡ false
    → IsTick before (Ok tick) after → Leaves before after
tick_leaves before after tick due e h =
    by_tick before after (Ok tick) h (λ d _. absurd (true≢false (sym d ∙ due)))
    (λ _ turns x. rw x.1 (back_leaves before turns))
    (λ _ _ m. let same : tick ≡ tick_of m.stepped m.instr before.hart.pc (moved_as before after) = cc (m.settles.0) in
    settled_leaves before after m.stepped m.instr (rw same at e) m.settles.1)

pub move_leaves : (p : Program) → p.machine.check_due ≡ false → stays (next_tick p).outcome ≡ false → Leaves p.machine (moved p).machine
move_leaves p due e = tick_leaves p.machine (the_tick p.machine).after (next_tick p) due e (the_tick p.machine).is

-- where a move leaves nothing to tell, it is made
quiet_goes : (p : Program) → (moved p).owed ≡ None → stays (next_tick p).outcome ≡ false
quiet_goes p e = grind arith

making : (k : Kept) (p : Program) (outcome : Outcome) → stays outcome ≡ false → moves_by k.now p outcome ≡ makes_move k.now p
making k p outcome e = grind arith

-- ---- many

-- this many more instructions may retire, unless it goes back
abbrev pub HasLeft : ℕ → Kept → Program → Type 0
HasLeft most k p = turns_back p.machine.goal ≡ false → p.machine.retired + most ≤ k.now.limits.last_retired

-- this many moves, of at most so many, are as many beats, and this stays of the program
record Quietly (most j : ℕ) (k : Kept) (p q : Program) : Type 0 where
  goes : (n m : ℕ) → m + most ≤ n → beats_on keepings n j (going k m) ≡ going (with_one q k) (m + j)
  run : q.run ≡ p.run
  mark : q.mark ≡ p.mark
  owed : q.owed ≡ None
  due : q.machine.check_due ≡ false
  goal : q.machine.goal ≡ p.machine.goal
  retired : turns_back p.machine.goal ≡ false → q.machine.retired ≡ p.machine.retired + j

-- as many have not retired yet
still_below : (last retired theirs j most : ℕ) (turns : Bool) → (turns ≡ false → theirs ≡ retired + j) → j < most
    → (turns ≡ false → retired + most ≤ last) → (not turns && leb last theirs) ≡ false
still_below last retired theirs j most turns is lt few = grind (arith, nat_tests)

still_free : (most j : ℕ) (k : Kept) (p q : Program) → IsFree p (keepings.see k) → j < most → HasLeft most k p → Quietly most j k p q
    → IsFree q (keepings.see (with_one q k))
still_free most j k p q f lt few s = record {
  program = refl;
  owed = s.owed;
  runnable = rw s.run f.runnable;
  mark = s.mark ∙ f.mark;
  room = f.room;
  due = s.due;
  few = rw s.goal
      (still_below k.now.limits.last_retired p.machine.retired q.machine.retired j most (turns_back p.machine.goal) s.retired lt few);
}

-- and then one more
one_more : (most j : ℕ) (k : Kept) (p q : Program) → IsFree p (keepings.see k) → j < most → HasLeft most k p → Quietly most j k p q
    → stays (next_tick q).outcome ≡ false → (n m : ℕ) → m + most ≤ n
    → beats_on keepings n (suc j) (going k m) ≡ going (with_one (moved q) k) (m + suc j)
one_more most j k p q f lt few s e n m room =
    let t = with_one q k in
    let goes = s.goes n m room in
    let more : ltb (m + j) n ≡ true = lt-ltb (m + j) n (omega (arith, lt, room)) in
    let made : beat (keepings.see t) true ≡ makes_move t.now q =
    free_beat q t (still_free most j k p q f lt few s) ∙ making t q (next_tick q).outcome e in
    let sum : m + j + 1 ≡ m + suc j = omega arith in
    rw (goes, more, made, sum)

quietly : (most j : ℕ) (k : Kept) (p q : Program) → IsFree p (keepings.see k) → j ≤ most → HasLeft most k p → GoesQuietly j p q
    → Quietly most j k p q
quietly most zero k p q f le few g =
    let here : k ≡ with_one p k = λ i. record k { now = record k.now { debuggee = record k.now.debuggee { program = f.program i } } } in
    rw g (record {
      goes = λ n m room. let none : m ≡ m + zero = omega arith in λ i. going (here i) (none i);
      run = refl;
      mark = refl;
      owed = f.owed;
      due = f.due;
      goal = refl;
      retired = λ _. omega arith;
    })
quietly most (suc j) k p q f le few g =
    let middle = g.0 in
    let lt : j < most = omega (arith, le) in
    let s = quietly most j k p middle f (omega (arith, le)) few g.1.0 in
    let made = quiet_goes middle g.1.1.0 in
    let r = move_leaves middle s.due made in
    rw g.1.1.1 (record {
      goes = one_more most j k p middle f lt few s made;
      run = s.run;
      mark = s.mark;
      owed = g.1.1.0;
      due = r.due ∙ s.due;
      goal = r.goal ∙ s.goal;
      retired = λ forward. let one = r.retired (ap turns_back s.goal ∙ forward) in let all = s.retired forward in omega (arith, one, all);
    })

-- ---- what is made of them

pub advance_moves : (left most : ℕ) (k new : Kept) (p q : Program) (a : Advanced) → IsFree p (keepings.see k) → 1 ≤ most → most ≤ left
    → HasLeft most k p → Advances most p a q → new ≡ with_one q k → Moved left k most a new
advance_moves left most k new p q Spent f some le few g e =
    let same : most ≤ most = omega arith in
    let s = quietly most most k p q f same few g in
    rw e (record { few = le; goes = λ n m room. s.goes n m (omega (arith, le, room)); next = some })
advance_moves left most k new p q (HasOutput count) f some le few g e =
    let j = g.1 in
    let lt = g.2.1.0 in
    let made = g.2.1.1.1 in
    let s = quietly most j k p g.0 f (omega (arith, lt)) few g.2.1.1.0 in
    rw (e, made.1.1, g.2.0) (record {
      few = omega (arith, lt, le);
      goes = λ n m room. one_more most j k p g.0 f lt few s made.0 n m (omega (arith, le, room));
      next = omega arith;
    })
advance_moves left most k new p q a f some le few g e =
    let lt = g.0 in
    let s = quietly most (moved_by most a) k p q f (omega (arith, lt)) few g.1.0 in
    rw e (record {
      few = omega (arith, lt, le);
      goes = λ n m room. s.goes n m (omega (arith, le, room));
      next = (omega (arith, lt, le), (q, (still_free most (moved_by most a) k p q f lt few s, g.1.1)));
    })

-- ---- then the slice continues, or the instruction that stays comes

pub beats_after : (n j i : ℕ) (d : Slicing Kept) → beats_on keepings n (j + i) d ≡ beats_on keepings n i (beats_on keepings n j d)
beats_after n j zero d = let e : j + zero ≡ j = omega arith in rw e
beats_after n j (suc i) d = let e : j + suc i ≡ suc (j + i) = omega arith in rw e (ap (next_beat keepings n) (beats_after n j i d))

goes_along : (left m most : ℕ) (k new : Kept) (a : Advanced) → Moved left k most a new → 1 ≤ moved_by most a
    → Stretches (m + left) m k (record { moved = moved_by most a; ending = None }) new
goes_along left m most k new a h some =
    record { count = moved_by most a; goes = h.goes (m + left) m (omega arith); some = λ _. some; lacks = λ out. absurd (cc) }

pub moves_all : (left m most : ℕ) (k new : Kept) (a : Advanced) → Moved left k most a new → a ≡ Spent
    → Stretches (m + left) m k (record { moved = most; ending = None }) new
moves_all left m most k new a h e = let s = rw e at h in goes_along left m most k new Spent s s.next

pub moves_some : (left m most n : ℕ) (k new : Kept) (a : Advanced) → Moved left k most a new → a ≡ HasOutput n
    → Stretches (m + left) m k (record { moved = n; ending = None }) new
moves_some left m most n k new a h e = let s = rw e at h in goes_along left m most k new (HasOutput n) s s.next

pub is_before : (left m moved : ℕ) → moved < left → ltb (m + moved) (m + left) ≡ true
is_before left m moved lt = grind (arith, nat_tests)

pub moves_then : (left m most n : ℕ) (tick : Tick) (k middle new : Kept) (a : Advanced) (end : Option SliceEnd) → Moved left k most a middle
    → a ≡ Stops n tick → ((all made : ℕ) → ltb made all ≡ true → Stretches all made middle (record { moved = 0; ending = end }) new)
    → (end ≡ None → ⊥) → Stretches (m + left) m k (record { moved = n; ending = end }) new
moves_then left m most n tick k middle new a end h e meets some =
    let before = rw e at h in
    let s = meets (m + left) (m + n) (is_before left m n before.next.0) in
    let goes = before.goes (m + left) m (omega arith) in
    let sum : m + n + 0 ≡ m + n = omega arith in
    record {
      count = n + s.count;
      goes = rw (beats_after (m + left) n s.count (going k m), goes, s.goes, sum);
      some = λ none. absurd (some none);
      lacks = rw sum at s.lacks;
    }

pub moves_lack : (left m most n : ℕ) (k new : Kept) (a : Advanced) → Moved left k most a new → a ≡ OutOfMemory n
    → Stretches (m + left) m k (record { moved = n; ending = Some ending.NoMemory }) new
moves_lack left m most n k new a h e =
    let before = rw e at h in
    let next = before.next in
    record {
      count = n;
      goes = before.goes (m + left) m (omega arith);
      some = λ none. absurd (cc);
      lacks = λ _. inr (record { goes = is_before left m n next.0; program = next.1.0; free = next.1.1.0; lacks = next.1.1.1 });
    }

pub the_free_one : (k : Kept) (p q : Program) → k.now.debuggee.program ≡ Some q → IsFree p (keepings.see k) → IsFree q (keepings.see k)
the_free_one k p q e f = let same = same_Some p q (sym f.program ∙ e) in rw same at f
