-- The ticks of a run, and how it ends with one.
use Rattle.stepping.proofs.Common.{add-one, AllocError, ap, arith, Debugged, EndsHalted, EndsRun, Goes, IsEnding, IsRun, IsTick, MayLackMemory, None, Ok, Option, plain_tick, refl, Result, RunEnd, Some, stretch_of, Stretches, suc, Tick, zero, ℕ, ⊤, ◌+◌, ◌-◌, ◌<◌, ◌∙◌, ◌≡◌, ◌≤◌}
use Rattle.stepping.specs.declared.tick.Ran.{Ran}
use Rattle.stepping.specs.declared.tick.RunEnd.TheVariants.{Spent, Ticked, NoMemory}
use Rattle.stepping.proofs.Advancing.{by_move}
use Rattle.stepping.proofs.Cases.{by_tick}

-- ---- how many instructions retire

-- at most one in a tick; and the goal stays
record HasTicked (before after : Debugged) : Type 0 where
  retires : after.retired ≤ before.retired + 1
  goal : after.goal ≡ before.goal

ticked : (before after : Debugged) (answer : Result Tick AllocError) → IsTick before answer after → HasTicked before after
ticked before after answer h = by_tick before after answer h (λ due e. grind arith) (λ due turns e. grind arith)
    (λ due forward m. by_move before after answer (λ a. grind arith) (λ e. grind arith) m)

pub tick_retires : (before after : Debugged) (answer : Result Tick AllocError) → IsTick before answer after
    → after.retired ≤ before.retired + 1
tick_retires before after answer h = (ticked before after answer h).retires

pub goes_goal : (n : ℕ) (before after : Debugged) → Goes n before after → after.goal ≡ before.goal
goes_goal zero before after g = ap (λ (d : Debugged). d.goal) g
goes_goal (suc n) before after g = (ticked g.0 after (Ok plain_tick) g.1.1.0).goal ∙ goes_goal n before g.0 g.1.0

pub goes_retire : (n : ℕ) (before after : Debugged) → Goes n before after → after.retired ≤ before.retired + n
goes_retire zero before after g = omega (arith, ap (λ (d : Debugged). d.retired) g)
goes_retire (suc n) before after g =
    omega (arith, goes_retire n before g.0 g.1.0, tick_retires g.0 after (Ok plain_tick) g.1.1.0)

pub run_retires : (most : ℕ) (before : Debugged) (ran : Ran) (after : Debugged) → IsRun most before ran after
    → after.retired ≤ before.retired + most
run_retires most before ran after h = go ran.ending (goes_retire ran.went before h.middle h.goes) h.ends where
  go : (ending : RunEnd) → h.middle.retired ≤ before.retired + ran.went → EndsRun most ran.went ending h.middle after
      → after.retired ≤ before.retired + most
  go Spent went e = omega (arith, went, e.0, ap (λ (d : Debugged). d.retired) e.1)
  go (Ticked tick) went e = omega (arith, went, e.0, tick_retires h.middle after (Ok tick) e.1.1)
  go NoMemory went e = omega (arith, went, e.0, ap (λ (d : Debugged). d.retired) e.1.0)

-- ---- some ticks, and some more

pub goes_join : (n m : ℕ) (before middle after : Debugged) → Goes n before middle → Goes m middle after → Goes (n + m) before after
goes_join n zero before middle after g h = let e : n + zero ≡ n = omega arith in rw (h, e) g
goes_join n (suc m) before middle after g h =
    let e : n + suc m ≡ suc (n + m) = omega arith in rw e (h.0, (goes_join n m before middle h.0 g h.1.0, h.1.1))

-- one more tick, after which a run ends in this way, or continues
pub one_more : (most went : ℕ) (before middle after : Debugged) (tick : Tick) (ending : Option RunEnd) → went < most
    → Goes went before middle → IsTick middle (Ok tick) after → IsEnding tick after ending
    → Stretches most before (stretch_of went ending).went (stretch_of went ending).ending after
one_more most went before middle after tick None lt g t e =
    (omega arith, (omega (arith, lt), rw (add-one went) (middle, (g, (rw e.0 at t, e.1)))))
one_more most went before middle after tick (Some ending) lt g t e = record { middle = middle; goes = g; ends = grind arith }

-- an instruction that halts
pub halted_stretches : (most went : ℕ) (before middle after : Debugged) (ending : RunEnd) → went < most → Goes went before middle
    → EndsHalted middle ending after → Stretches most before went (Some ending) after
halted_stretches most went before middle after ending lt g e = record { middle = middle; goes = g; ends = grind arith }

-- ---- a run of such

pub ends_run : (most went more : ℕ) (before middle after : Debugged) (ending : RunEnd) → went ≤ most → Goes went before middle
    → Stretches (most - went) middle more (Some ending) after
    → IsRun most before (record { went = went + more; ending = ending }) after
ends_run most went more before middle after ending few g s =
    let ends = s.ends in
    record { middle = s.middle; goes = goes_join went more before middle s.middle g s.goes; ends = grind arith }

pub all_went : (most went : ℕ) (before after : Debugged) → went ≤ most → most ≤ went → Goes went before after
    → IsRun most before (record { went = most; ending = Spent }) after
all_went most went before after a b h =
    let e : most ≡ went = omega (arith, a, b) in record { middle = after; goes = rw e h; ends = (refl, refl) }

-- ---- a run of one tick

-- where it ends with that tick, and where that needs a page for which no memory was left
abbrev pub OneEnds : Debugged → RunEnd → Debugged → Type 0
OneEnds before Spent after = ⊤
OneEnds before (Ticked tick) after = IsTick before (Ok tick) after
OneEnds before NoMemory after = (after ≡ before) × MayLackMemory before

pub one_ends : (before after : Debugged) (ran : Ran) → IsRun 1 before ran after → OneEnds before ran.ending after
one_ends before after ran h = go ran.went ran.ending h.goes h.ends where
  go : (went : ℕ) (ending : RunEnd) → Goes went before h.middle → EndsRun 1 went ending h.middle after → OneEnds before ending after
  go went Spent g e = tt
  go zero (Ticked tick) g e = rw g at e.1.1
  go zero NoMemory g e = rw g at e.1
  go _ _ g e = absurd (omega (arith, e.0))
