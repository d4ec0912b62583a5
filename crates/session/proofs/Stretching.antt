-- Beats of a slice: one, or many that leave nothing to tell.
use Rattle.session.proofs.Common.{[], after_beat, and_from, ap, arith, beat, Beat, becomes, Bool, concludes, Decides, ending_of, ends, entered, halts, inl, is_active, is_owed, is_to_tell, IsFree, keepings, Kept, ltb, MayLack, moves_by, nat_tests, needs_memory, next_tick, None, Now, Option, or_left, or_right, Outcome, owed_of, performed, Program, refl, same_Some, SliceEnd, Some, stays, stops, Stretches, sym, telling, Tick, true, unless_memory, Why, ℕ, ◌+◌, ◌∙◌, ◌∷◌, ◌≡◌}
use Rattle.session.specs.declared.event.SliceEnd.TheVariants as ending
use Rattle.session.specs.declared.slices.Next.TheVariants as next
use Rattle.session.proofs.Deciding.{free_beat}

-- ---- one beat

-- no beat of the definition lacks memory
abbrev Ends : Option SliceEnd → Type 0
Ends e = unless_memory e ≡ e

pub stretches_by : (n m : ℕ) (more : Bool) (k new : Kept) (b : Beat) → ltb m n ≡ more → beat (keepings.see k) more ≡ b → Ends b.ending
    → new ≡ after_beat keepings b k → Stretches n m k (record { moved = b.moved; ending = b.ending }) new
stretches_by n m more k new b lt is ends e = record {
  count = 1;
  goes = rw (lt, is, e, ends);
  some = λ none. omega arith;
  lacks = λ out. absurd (let none : unless_memory (Some ending.NoMemory) ≡ Some ending.NoMemory = rw out at ends in cc);
}

-- memory was lacking, and nothing happened
lacks_memory : (n m : ℕ) (more : Bool) (k new : Kept) → ltb m n ≡ more → new ≡ k → MayLack (keepings.see k) more
    → Stretches n m k (record { moved = 0; ending = Some ending.NoMemory }) new
lacks_memory n m more k new lt e may =
    let none : m ≡ m + 0 = omega arith in
    record {
      count = 0;
      goes = λ j. record { state = sym e j; moved = none j; ending = None };
      some = λ none. absurd (cc);
      lacks = λ _. rw (e, ← none, lt) may;
    }

owes_some : (program : Option Program) (tick : Tick) → owed_of program ≡ Some tick → is_owed program ≡ true
owes_some program tick e = grind arith

-- something was owed to an editor that has said all
pub lacks_telling : (n m : ℕ) (k new : Kept) (tick : Tick) → owed_of k.now.debuggee.program ≡ Some tick
    → is_active k.now.link ≡ true → new ≡ k → Stretches n m k (record { moved = 0; ending = Some ending.NoMemory }) new
lacks_telling n m k new tick owes active e =
    lacks_memory n m (ltb m n) k new refl e (inl (or_left _ _ (and_from _ _ active (owes_some k.now.debuggee.program tick owes))))

-- an editor that has said all would have been told
pub lacks_stopping : (n m : ℕ) (k new : Kept) (reason : Why) (more : Bool) → ltb m n ≡ more → Decides (next.Stop reason) k more
    → is_active k.now.link ≡ true → new ≡ k → Stretches n m k (record { moved = 0; ending = Some ending.NoMemory }) new
lacks_stopping n m k new reason more lt d active e =
    lacks_memory n m more k new lt e
    (inl (or_right (is_to_tell k.now) _ (rw (d.1.1, active))))

-- the slice ends
pub ends_there : (n m : ℕ) (more : Bool) (k : Kept) (e : SliceEnd) → ltb m n ≡ more → Decides (next.End e) k more
    → Stretches n m k (record { moved = 0; ending = Some e }) k
ends_there n m more k e lt d = stretches_by n m more k k (ends e) lt d.0 d.1 refl

pub is_left : (m left : ℕ) → ltb m (m + left) ≡ ltb 0 left
is_left m left = grind (arith, nat_tests)

-- ---- what is owed

outcome_ends : (outcome : Outcome) → Ends (ending_of outcome)
outcome_ends outcome = grind arith

-- the program that owes it
owed_by : (program : Option Program) (tick : Tick) → owed_of program ≡ Some tick
    → (p : Program) × ((program ≡ Some p) × (p.owed ≡ Some tick))
owed_by None tick e = absurd (cc)
owed_by (Some p) tick e = (p, (refl, e))

pub tells : (n m : ℕ) (k new : Kept) (tick : Tick) → owed_of k.now.debuggee.program ≡ Some tick
    → ((p : Program) → k.now.debuggee.program ≡ Some p → new ≡ performed keepings (telling k.now p tick) k)
    → Stretches n m k (record { moved = 0; ending = ending_of tick.outcome }) new
tells n m k new tick owes e =
    let o = owed_by k.now.debuggee.program tick owes in
    stretches_by n m (ltb m n) k new (record { acts = telling k.now o.0 tick; moved = 0; ending = ending_of tick.outcome }) refl
    (cc (o.1.0, o.1.1)) (outcome_ends tick.outcome) (e o.0 o.1.0)

-- ---- the program stops, and the check at the entry

pub stops_there : (n m : ℕ) (k new : Kept) (reason : Why) (more : Bool) → ltb m n ≡ more → Decides (next.Stop reason) k more
    → ((p : Program) → k.now.debuggee.program ≡ Some p → new ≡ performed keepings (halts k.now p reason []) k)
    → Stretches n m k (record { moved = 0; ending = Some ending.Stopped }) new
stops_there n m k new reason more lt d e = stretches_by n m more k new (stops k.now d.0 reason) lt d.1.1 refl (e d.0 d.1.0)

pub checks_there : (n m : ℕ) (k new : Kept) (more : Bool) → ltb m n ≡ more → Decides next.Check k more
    → ((p : Program) → k.now.debuggee.program ≡ Some p → new ≡ performed keepings (becomes k.now (entered p) ∷ []) k)
    → Stretches n m k (record { moved = 0; ending = None }) new
checks_there n m k new more lt d e =
    stretches_by n m more k new (record { acts = becomes k.now (entered d.0) ∷ []; moved = 0; ending = None }) lt d.1.1.0 refl (e d.0 d.1.0)

-- the check is due, and nothing is owed
pub is_due : (k : Kept) (more : Bool) (p : Program) → Decides next.Check k more → k.now.debuggee.program ≡ Some p
    → (p.machine.check_due ≡ true) × (p.owed ≡ None)
is_due k more p d is = rw (same_Some d.0 p (sym d.1.0 ∙ is)) at d.1.1.1

-- ---- an instruction that stays

abbrev concluding : Kept → Program → Outcome → Beat
concluding k p outcome = record { acts = concludes k.now p outcome []; moved = 0; ending = ending_of outcome }

concludes_by : (k : Kept) (p : Program) (outcome : Outcome) → stays outcome ≡ true → moves_by k.now p outcome ≡ concluding k p outcome
concludes_by k p outcome so = grind arith

stays_beat : (k : Kept) (p : Program) (tick : Tick) → IsFree p (keepings.see k) → next_tick p ≡ tick → stays tick.outcome ≡ true
    → beat (keepings.see k) true ≡ concluding k p tick.outcome
stays_beat k p tick free is so =
    free_beat p k free ∙ ap (λ (t : Tick). moves_by k.now p t.outcome) is ∙ concludes_by k p tick.outcome so

pub meets_next : (n m : ℕ) (k new : Kept) (tick : Tick) → ltb m n ≡ true
    → (p : Program) × (IsFree p (keepings.see k) × ((next_tick p ≡ tick) × (stays tick.outcome ≡ true)))
    → ((p : Program) → k.now.debuggee.program ≡ Some p → new ≡ performed keepings (concludes k.now p tick.outcome []) k)
    → Stretches n m k (record { moved = 0; ending = ending_of tick.outcome }) new
meets_next n m k new tick lt d e =
    stretches_by n m true k new (concluding k d.0 tick.outcome) lt (stays_beat k d.0 tick d.1.0 d.1.1.0 d.1.1.1)
    (outcome_ends tick.outcome) (e d.0 d.1.0.program)

concluding_needs : (now : Now) (p : Program) (outcome : Outcome) → stays outcome ≡ true → is_active now.link ≡ true
    → needs_memory (concludes now p outcome []) ≡ true
concluding_needs now p outcome so active = grind arith

pub lacks_meeting : (n m : ℕ) (k new : Kept) (tick : Tick) → ltb m n ≡ true
    → (p : Program) × (IsFree p (keepings.see k) × ((next_tick p ≡ tick) × (stays tick.outcome ≡ true))) → is_active k.now.link ≡ true
    → new ≡ k → Stretches n m k (record { moved = 0; ending = Some ending.NoMemory }) new
lacks_meeting n m k new tick lt d active e =
    lacks_memory n m true k new lt e
    (inl (or_right (is_to_tell k.now) _
    (rw (stays_beat k d.0 tick d.1.0 d.1.1.0 d.1.1.1) (concluding_needs k.now d.0 tick.outcome d.1.1.1 active))))
