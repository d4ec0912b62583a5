-- Where a run that goes back stops.
--
-- Let the recorded moves be undone one after the other, the newest first (Debug Adapter Protocol, requests `stepBack`,
-- `reverseContinue`). Hart, memory and calls are then as they were before each, and the breakpoints as they are: no hit
-- counts on the way. A step back stops at n = 1. A run back stops at the least n >= 1 at which a reason applies, and for
-- the first of these reasons:
--
--   1. where the machine was before the n-th of them a breakpoint of a source line stands,
--   2. or one of an instruction,
--   3. or one of a function,
--   4. or as many are undone as are recorded.
--
-- So it stops at the newest position of the past where a breakpoint stands, and else at the oldest.
use Rattle.std.specs.Prelude.{◌≡◌, ℕ, suc, zero, ◌<◌, ◌≤◌, Bool, true, false, ◌||◌, if◌then◌else◌, IsTrue, List, [], ◌∷◌}
use Rattle.std.specs.Prelude.{length, drop, Some, Ok, slice_get}
use Rattle.std.specs.List.{list_any}
use Rattle.breakpoints.specs.Stops.{Lists, Placed, stands}
use Rattle.course.specs.Positions.{Course, Position}
use Rattle.stepping.specs.Goals.{turns_back}
use Rattle.stepping.specs.RunLaws.{GoOn}
use Rattle.stepping.specs.Stopping.{place}
use Rattle.stepping.specs.Ticks.{Debugged, IsTick, course_of, position_of}
use Rattle.stepping.specs.declared.goal.Goal.{Goal}
use Rattle.stepping.specs.declared.goal.Goal.TheVariants.{Back, ReverseGo}
use Rattle.stepping.specs.declared.tick.Outcome.{Outcome}
use Rattle.stepping.specs.declared.tick.Outcome.TheVariants.{Went, Stopped, Ended}
use Rattle.stepping.specs.declared.tick.Reason.TheVariants.{Source, Instruction, Function, Goal as GoalMet, Start}
use Rattle.stepping.specs.declared.tick.Tick.{Tick}

-- ---- the least number

-- one of these breakpoints stands where the machine was then
abbrev pub OneStands : List Placed → Position → Type 0
OneStands breakpoints p = IsTrue (list_any (stands p.hart.pc p.hart p.memory) breakpoints)

-- the reason applies once `n` moves are undone, where this is the position before the last of them
abbrev pub AppliesThere : Goal → Outcome → ℕ → Position → Debugged → Type 0
AppliesThere Back (Stopped GoalMet) n p start = n ≡ 1
AppliesThere ReverseGo (Stopped Source) n p start = OneStands start.lists.source p
AppliesThere ReverseGo (Stopped Instruction) n p start = OneStands start.lists.instructions p
AppliesThere ReverseGo (Stopped Function) n p start = OneStands start.lists.functions p
AppliesThere ReverseGo (Stopped Start) n p start = n ≡ length start.past
AppliesThere other outcome n p start = ⊥

abbrev pub AppliesBack : ℕ → Outcome → Debugged → Type 0
AppliesBack zero outcome start = ⊥
AppliesBack (suc n) outcome start =
    (p : Position) × ((slice_get start.past n ≡ Some p) × AppliesThere start.goal outcome (suc n) p start)

-- no reason applies at a lower number
abbrev pub NoneBackBelow : ℕ → Debugged → Type 0
NoneBackBelow n start = (lower : ℕ) (outcome : Outcome) → lower < n → AppliesBack lower outcome start → ⊥

-- A run back from here stops once `n` moves are undone, for this reason.
pub record StopsBackAt (n : ℕ) (outcome : Outcome) (start : Debugged) : Type 0 where
  pub applies : AppliesBack n outcome start
  pub first : (other : Outcome) → AppliesBack n other start → place outcome ≤ place other
  pub least : NoneBackBelow n start

-- ---- ticks

-- what a tick with this number says about its run, by its outcome
abbrev pub SaysBack : ℕ → Outcome → Debugged → Type 0
SaysBack n Went start = NoneBackBelow (suc n) start
SaysBack n (Stopped reason) start = StopsBackAt n (Stopped reason) start
SaysBack n (Ended code) start = ⊥

-- the machine is where it was before the last `n + 1` moves, and what was recorded before that still is
pub record LeavesBack (n : ℕ) (start after : Debugged) : Type 0 where
  pub now : slice_get start.past n ≡ Some (position_of after)
  pub past : after.past ≡ drop (suc n) start.past

-- What a tick of a run back says is true, and it leaves the machine before as many moves.
abbrev pub BackTicksSayWhere : Type 0
BackTicksSayWhere = (ticks : ℕ) (start before after : Debugged) (tick : Tick) → turns_back start.goal ≡ true →
    start.check_due ≡ false → 1 ≤ length start.past → GoOn ticks start before → IsTick before (Ok tick) after →
    SaysBack (suc ticks) tick.outcome start × LeavesBack ticks start after

-- ---- the same, as a function

-- whether a breakpoint of one of the lists stands where the machine was then
abbrev pub one_stands : Lists → Position → Bool
one_stands lists p = list_any (stands p.hart.pc p.hart p.memory) lists.source
    || (list_any (stands p.hart.pc p.hart p.memory) lists.instructions
    || list_any (stands p.hart.pc p.hart p.memory) lists.functions)

-- where a run back stops: at the newest position of the past that passes the test, and else at the oldest
abbrev pub turned : (Position → Bool) → List Position → Position → Course
turned test [] now = record { now = now; past = [] }
turned test (p ∷ past) now = if test p then record { now = p; past = past } else turned test past p

abbrev pub turned_from : Debugged → Course
turned_from d = turned (one_stands d.lists) d.past (position_of d)

-- A tick after which a run back continues leaves where the run stops as it was, and one that stops it is there.
abbrev pub TurnsTo : Outcome → Debugged → Debugged → Type 0
TurnsTo Went before after = (turned_from after ≡ turned_from before) × (1 ≤ length after.past)
TurnsTo (Stopped reason) before after = course_of after ≡ turned_from before
TurnsTo (Ended code) before after = ⊥

abbrev pub BackTicksTurn : Type 0
BackTicksTurn = (before after : Debugged) (tick : Tick) → before.goal ≡ ReverseGo → before.check_due ≡ false →
    1 ≤ length before.past → IsTick before (Ok tick) after → TurnsTo tick.outcome before after
