-- What holds of every machine that is debugged, and how a run continues or ends.
use Rattle.std.specs.Prelude.{◌≡◌, ℕ, ◌+◌, ◌%◌, ◌^◌, ◌<◌, ◌≤◌, true, false, ◌∷◌, Option, Some, None, slice_get}
use Rattle.image.specs.Lines.{Table}
use Rattle.rv32i.specs.declared.stepped.Stepped.{Stepped}
use Rattle.rv32i.specs.declared.stepped.Stepped.TheVariants.{Retired, Printed, Break, Exit, Trap}
use Rattle.course.specs.Positions.{Course, Position}
use Rattle.stepping.specs.Goals.{is_met, may_end}
use Rattle.stepping.specs.Plain.{IsPlain}
use Rattle.stepping.specs.Runs.{Goes, IsRun}
use Rattle.stepping.specs.Ticks.{Debugged, seen, stayed, with_check}
use Rattle.stepping.specs.declared.goal.Goal.{Goal}
use Rattle.stepping.specs.declared.tick.RunEnd.{RunEnd}
use Rattle.stepping.specs.declared.tick.RunEnd.TheVariants.{Spent, Ticked, NoMemory}
use Rattle.stepping.specs.declared.tick.Outcome.TheVariants.{Went}
use Rattle.stepping.specs.declared.tick.Tick.{Tick}

-- ---- always

-- With this many open calls or more a goal is out of reach: it is not met, wherever pc is. No more than 2^62 are ever open.
abbrev pub IsOutOfReach : ℕ → Goal → ℕ → Type 0
IsOutOfReach from goal start = (table : Table) (pc depth : ℕ) → from ≤ depth → depth ≤ 2 ^ 62
    → is_met goal start table pc depth ≡ false

-- With fewer open calls it is not: it is met wherever its step may end.
abbrev pub IsInReach : ℕ → Goal → ℕ → Type 0
IsInReach from goal start = (table : Table) (pc depth : ℕ) → depth < from → may_end goal table pc ≡ true
    → is_met goal start table pc depth ≡ true

-- No more calls are open than instructions have retired; and before each of the recorded moves no more were than had
-- retired then. So no more moves are recorded than instructions have retired.
abbrev pub AreCounted : Course → ℕ → Type 0
AreCounted course retired =
    (k : ℕ) (p : Position) → slice_get (course.now ∷ course.past) k ≡ Some p → p.calls.depth + k ≤ retired

-- its memory has a size that memory can have, its instructions are counted, and it is known from where on the goal is
-- out of reach
pub record IsSound (size : ℕ) (course : Course) (retired out_of_reach : ℕ) (goal : Goal) (start : ℕ) : Type 0 where
  pub whole : size % 4096 ≡ 0
  pub some : 4096 ≤ size
  pub few : size ≤ 16777216
  pub called : AreCounted course retired
  pub unmet : IsOutOfReach out_of_reach goal start

-- ---- after a move

-- nothing to report at pc: the machine continues, and a look at the breakpoints finds none
pub record IsQuiet (d : Debugged) : Type 0 where
  pub went : seen d ≡ Went
  pub checked : with_check d ≡ stayed d

-- how many instructions retired in a move, by what the hart answers to it
abbrev pub counted_by : Stepped → ℕ
counted_by Retired = 1
counted_by (Printed number) = 1
counted_by Break = 1
counted_by (Exit code) = 0
counted_by (Trap cause) = 0

-- what is left to be done once a move was made, by an instruction that is no jump, recorded and counted: pc is looked
-- at, if it retired
abbrev pub left_by : Stepped → Debugged → Debugged
left_by Retired d = with_check d
left_by (Printed number) d = with_check d
left_by Break d = with_check d
left_by (Exit code) d = stayed d
left_by (Trap cause) d = stayed d

-- ---- a tick of a run

-- how a run ends by what a tick comes to, and by the machine after it; with nothing to report it continues
abbrev pub IsEnding : Tick → Debugged → Option RunEnd → Type 0
IsEnding tick after None = IsPlain tick after
IsEnding tick after (Some Spent) = ⊥
IsEnding tick after (Some (Ticked other)) = (other ≡ tick) × (IsPlain tick after → ⊥)
IsEnding tick after (Some NoMemory) = ⊥

-- A run of some ticks, at most `most`, ends in this way, or continues after at least one.
abbrev pub Stretches : ℕ → Debugged → ℕ → Option RunEnd → Debugged → Type 0
Stretches most before went None after = (1 ≤ went) × ((went ≤ most) × Goes went before after)
Stretches most before went (Some ending) after = IsRun most before (record { went = went; ending = ending }) after
