-- Ticks stop at the least number at which a reason applies.
use Rattle.stepping.proofs.Common.{After, AllocError, AnswersWith, ap, Applies, AppliesAt, AppliesAtEntry, arith, Bool, both_ways, Debugged, EndingSays, EndsRun, Exception, false, Function, Goes, GoOn, hit_at_pc, if◌then◌else◌, inl, inr, Instruction, IsOk, IsTick, None, NoneBelow, number_after, Ok, Option, Outcome, outcome_of, place, plain_tick, Reason, refl, Result, RunEnd, RunsSayWhere, RunsStopThere, Says, Source, Stopped, StopsAt, suc, Tick, TicksSayWhere, true, turns_back, Went, zero, ℕ, ℤ, ◌<◌, ◌∙◌, ◌≡◌, ◌≤◌, ◌⊎◌}
use Rattle.stepping.specs.declared.tick.RunEnd.TheVariants.{Ticked}
use Rattle.stepping.proofs.Advancing.{after_keeps, each_tick_answers}
use Rattle.stepping.proofs.Cases.{by_hit, Enters, entry_of, move_of, no_went, none_more, one_tick}
use Rattle.stepping.proofs.Reasons.{SaysOnce, one_says}
use Rattle.stepping.proofs.Stopping.{applies_here, stop_is_unique}

-- ---- the number of a tick after the entry

-- the machine after `k` moves, where no reason has applied
abbrev Ready : ℕ → Debugged → Debugged → Type 0
Ready k start before = NoneBelow (suc k) start × After k start before

stops_there : (k : ℕ) (start before : Debugged) (outcome : Outcome) → Ready k start before → Applies outcome before
    → ((other : Outcome) → Applies other before → place outcome ≤ place other) → StopsAt (suc k) outcome start
stops_there k start before outcome ready a f = record {
  applies = (before, (ready.1, a));
  first = λ other x. f other (applies_here k start before other ready.1 x);
  least = ready.0;
}

next_says : (k : ℕ) (start before after : Debugged) (outcome : Outcome) → Ready k start before → SaysOnce outcome before after
    → Says (suc k) outcome start after
next_says k start before after Went r s =
    let none = λ (o : Outcome) (a : Applies o before). no_went (λ o. Applies o before) (λ never. never) o a (s.first o a) in
    (none_more (λ n o. AppliesAt n o start) (suc k) r.0 (λ o x. none o (applies_here k start before o r.1 x)), (before, (r.1, s.leaves)))
next_says k start before after (Stopped (Exception cause)) r s =
    (stops_there k start before (Stopped (Exception cause)) r s.held s.first, (before, (r.1, s.leaves)))
next_says k start before after outcome r s = (stops_there k start before outcome r s.held s.first, (before, (r.1, s.leaves)))

-- ---- the check at the entry

none_lower : (start : Debugged) → NoneBelow 0 start
none_lower start lower outcome l x = absurd (omega (arith, l))

ready_at_start : (start : Debugged) → start.check_due ≡ false → Ready 0 start start
ready_at_start start e =
    (none_more (λ n o. AppliesAt n o start) 0 (none_lower start) (λ o x. both_ways start.check_due e x.0), rw e refl)

entry_first : (start : Debugged) (other : Outcome) → AppliesAtEntry other start → place (outcome_of (hit_at_pc start) false) ≤ place other
entry_first start other x = grind arith

entry_says : (start after : Debugged) (tick : Tick) → start.check_due ≡ true → IsTick start (Ok tick) after
    → Says 0 tick.outcome start after
entry_says start after tick due t = rw (one_tick tick _ h.0)
    (by_hit (λ o. First o → Says 0 o start after) (hit_at_pc start) Went (stops Source) (stops Instruction) (stops Function) goes_on
    (entry_first start)) where
      h : Enters start (Ok tick) after
      h = entry_of start after (Ok tick) due t

      First : Outcome → Type 0
      First o = (other : Outcome) → AppliesAtEntry other start → place o ≤ place other

      left : After 0 start after
      left = rw due h.1

      stops : (r : Reason) → AppliesAtEntry (Stopped r) start → First (Stopped r) → Says 0 (Stopped r) start after
      stops r a f = (record { applies = (due, a); first = λ other x. f other x.1; least = none_lower start }, left)

      goes_on : First Went → Says 0 Went start after
      goes_on f =
          let none = λ (o : Outcome) (a : AppliesAtEntry o start). no_went (λ o. AppliesAtEntry o start) (λ never. never) o a (f o a) in
          (none_more (λ n o. AppliesAt n o start) 0 (none_lower start) (λ o x. none o x.1), left)

-- ---- all ticks

abbrev went : Option ℤ → Tick
went printed = record { printed = printed; outcome = Went }

module _ (start : Debugged) (forward : turns_back start.goal ≡ false) where
  tick_says : (k : ℕ) (before after : Debugged) (tick : Tick) → Ready k start before → IsTick before (Ok tick) after
      → Says (suc k) tick.outcome start after
  tick_says k before after tick r t =
      let keeps = after_keeps k start before r.1 in
      next_says k start before after tick.outcome r
      (one_says before after tick (move_of before after (Ok tick) keeps.ready (ap turns_back keeps.goal_is ∙ forward) t))

  -- one that comes after some that continued
  numbered : (due : Bool) (ticks : ℕ) (before after : Debugged) (tick : Tick) → start.check_due ≡ due → GoOn ticks start before
      → IsTick before (Ok tick) after → Says (if due then ticks else suc ticks) tick.outcome start after
  numbered true zero before after tick e g t = entry_says start after tick e (rw g at t)
  numbered false zero before after tick e g t = tick_says 0 before after tick (rw g (ready_at_start start e)) t
  numbered true (suc k) before after tick e g t =
      tick_says k before after tick (numbered true k g.0 before (went g.2.1.0) e g.2.0 (rw g.2.1.1 at g.2.2)) t
  numbered false (suc k) before after tick e g t =
      tick_says (suc k) before after tick (numbered false k g.0 before (went g.2.1.0) e g.2.0 (rw g.2.1.1 at g.2.2)) t

  none_so_far : (due : Bool) (ticks : ℕ) (before : Debugged) → start.check_due ≡ due → GoOn ticks start before
      → NoneBelow (if due then ticks else suc ticks) start
  none_so_far true zero before e g = none_lower start
  none_so_far false zero before e g = (ready_at_start start e).0
  none_so_far true (suc k) before e g = (numbered true k g.0 before (went g.2.1.0) e g.2.0 (rw g.2.1.1 at g.2.2)).0
  none_so_far false (suc k) before e g = (numbered false k g.0 before (went g.2.1.0) e g.2.0 (rw g.2.1.1 at g.2.2)).0

pub ticks_say_where : TicksSayWhere
ticks_say_where ticks start before after tick f g t = numbered start f start.check_due ticks before after tick refl g t

-- ---- a tick up to the number at which a run stops

answered : (answer : Result Tick AllocError) → IsOk answer → (tick : Tick) × (answer ≡ Ok tick)
answered answer o = grind arith

says_so : (k n : ℕ) (outcome told : Outcome) (start after : Debugged) (tick : Tick) (answer : Result Tick AllocError) → answer ≡ Ok tick
    → tick.outcome ≡ told → StopsAt n outcome start → Says k told start after
    → ((k < n) × AnswersWith Went answer) ⊎ ((k ≡ n) × AnswersWith outcome answer)
says_so k n outcome Went start after tick answer a e stop s =
    let reached : (n < suc k → ⊥) = λ l. s.0 n outcome l stop.applies in
    inl (omega (arith, reached), (tick.printed, grind arith))
says_so k n outcome told start after tick answer a e stop s =
    let same = stop_is_unique k n told outcome start s.0 stop in
    inr (same.0, (tick.printed, grind arith))

pub runs_stop_there : RunsStopThere
runs_stop_there ticks n outcome start before after answer f stop g t =
    let ok = answered answer (each_tick_answers before after answer t) in
    says_so (number_after ticks start) n outcome ok.0.outcome start after ok.0 answer ok.1 refl stop
    (ticks_say_where ticks start before after ok.0 f g (rw ok.1 at t))

-- ---- many ticks in one call

plain_ticks_go_on : (ticks : ℕ) (start after : Debugged) → Goes ticks start after → GoOn ticks start after
plain_ticks_go_on zero start after g = g
plain_ticks_go_on (suc k) start after g = (g.0, Ok plain_tick, (plain_ticks_go_on k start g.0 g.1.0, (None, refl), g.1.1.0))

pub runs_say_where : RunsSayWhere
runs_say_where most ran start after f run = go ran.ending run.ends where
  goes : GoOn ran.went start run.middle
  goes = plain_ticks_go_on ran.went start run.middle run.goes

  go : (ending : RunEnd) → EndsRun most ran.went ending run.middle after → EndingSays ran.went ending start after
  go (Ticked tick) e = ticks_say_where ran.went start run.middle after tick f goes e.1.1
  go _ e = none_so_far start f start.check_due ran.went run.middle refl goes
