-- Instructions that retire one after the other, with nothing to report at any of them.
--
-- Where the addresses of breakpoints are far and the goal is out of reach, nothing has to be looked at: a run then goes
-- from one address to the next, and the hart's pc and the count of instructions are set where it ends.
use Rattle.std.specs.Prelude.{◌≡◌, ◌≢◌, ℕ, zero, suc, ◌+◌, ◌<◌, ◌≤◌, false, Option, Some, None, Ok, Err}
use Rattle.breakpoints.specs.Places.{is_among}
use Rattle.breakpoints.specs.Stops.{Lists}
use Rattle.course.specs.Positions.{Course, GoesOn, Halts}
use Rattle.stepping.specs.Plain.{plain_tick}
use Rattle.stepping.specs.Runs.{Goes, HasMoved, MayLackMemory}
use Rattle.stepping.specs.Ticks.{Debugged, IsTick, position_of}
use Rattle.stepping.specs.declared.running.Stretch.{Stretch}
use Rattle.stepping.specs.declared.tick.RunEnd.{RunEnd}
use Rattle.stepping.specs.declared.tick.RunEnd.TheVariants as run
use Rattle.stepping.specs.declared.burst.Burst.{Burst}
use Rattle.stepping.specs.declared.burst.BurstEnd.{BurstEnd}
use Rattle.stepping.specs.declared.burst.BurstEnd.TheVariants.{Spent, Near, Halted}

-- no breakpoint is at an address
abbrev pub HasNone : Lists → ℕ → Type 0
HasNone lists pc = is_among pc lists.source lists.instructions lists.functions ≡ false

-- none is there, and enough calls are open to keep the goal out of reach
pub record IsFar (lists : Lists) (reach pc depth : ℕ) : Type 0 where
  pub none : HasNone lists pc
  pub deep : reach ≤ depth

-- this many instructions retire one after the other, and each leads to a place with nothing to report
abbrev pub Retire : ℕ → Lists → ℕ → ℕ → Course → ℕ → Course → Type 0
Retire zero lists reach at before next after = (next ≡ at) × (after ≡ before)
Retire (suc n) lists reach at before next after = (pc : ℕ) × (middle : Course)
    × (Retire n lists reach at before pc middle × GoesOn pc middle (Ok next) after
    × IsFar lists reach next after.now.calls.depth)

-- what ended them: as many as were asked for retired; one more retired, and led to where there may be something to see;
-- or the next one halts
abbrev pub EndsBurst : ℕ → ℕ → BurstEnd → ℕ → Course → ℕ → Course → Type 0
EndsBurst most went Spent pc middle next after = (went ≡ most) × ((next ≡ pc) × (after ≡ middle))
EndsBurst most went Near pc middle next after = (went < most) × GoesOn pc middle (Ok next) after
EndsBurst most went (Halted halt) pc middle next after =
    (went < most) × (GoesOn pc middle (Err halt) after × (next ≡ pc))

-- how many retired
abbrev pub moved_by : ℕ → BurstEnd → ℕ
moved_by went Spent = went
moved_by went Near = went + 1
moved_by went (Halted halt) = went

pub record Bursts (most : ℕ) (lists : Lists) (reach : ℕ) (before : Course) (burst : Burst) (after : Course) : Type 0 where
  pub pc : ℕ
  pub middle : Course
  pub retire : Retire burst.went lists reach before.now.hart.pc before pc middle
  pub ends : EndsBurst most burst.went burst.ending pc middle burst.pc after
  pub stays : after.now.hart.pc ≡ before.now.hart.pc

-- ---- of a machine

-- The instruction at pc ends a run: its tick is not plain, or it needs a page for which no memory was left.
abbrev pub EndsHalted : Debugged → RunEnd → Debugged → Type 0
EndsHalted before run.Spent after = ⊥
EndsHalted before (run.Ticked tick) after = (tick ≢ plain_tick) × IsTick before (Ok tick) after
EndsHalted before run.NoMemory after = (after ≡ before) × MayLackMemory before

-- the same as ticks: nothing was to report of them, and the machine is where they ended
abbrev pub Ends : ℕ → ℕ → BurstEnd → Debugged → Debugged → Type 0
Ends most went Spent before after = (went ≡ most) × Goes went before after
Ends most went Near before after = (went < most) × ((middle : Debugged) × (Goes went before middle × HasMoved middle after))
Ends most went (Halted halt) before after =
    (went < most) × (Goes went before after × (after.check_due ≡ false) × Halts after.hart.pc halt (position_of after))

-- this many ticks and then one more, after which a run ends in this way, or continues
abbrev pub stretch_of : ℕ → Option RunEnd → Stretch
stretch_of went (Some ending) = record { went = went; ending = Some ending }
stretch_of went None = record { went = went + 1; ending = None }
