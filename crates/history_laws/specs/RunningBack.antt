-- A run back (DAP specification, `ReverseContinueRequest`).
--
-- Let the program be given time, slice after slice, and let nothing else happen. It runs, or it stands at the newest
-- recorded position at which a breakpoint stands, and where there is none, at the oldest: by the positions and the breakpoints
-- before the first slice (`turned_from` of `stepping`). The reason is that of the first kind of breakpoint
-- that stands there, and else that nothing older is recorded. How the moves are cut into slices makes no difference, nor
-- whether slices find memory.
--
-- In numbers: let n moves be recorded. It stops where j moves lead from the oldest recorded position, j being the greatest
-- number below n such that a breakpoint stands where j moves lead, and else 0.
use Rattle.std.specs.Prelude.{◌≡◌, ◌⊎◌, ℕ, ◌<◌, ◌≤◌, Bool, true, false, All, List, length, Some, ⊤, codes, refl}
use Rattle.breakpoints.specs.Stops.{Lists, standing_in}
use Rattle.course.specs.Positions.{Course, Position}
use Rattle.debuggee.specs.Programs.{Program}
use Rattle.debuggee.specs.declared.run.Run.TheVariants.{Running, Stopped as StandsStill}
use Rattle.debuggee.specs.declared.run.Why.TheVariants as why
use Rattle.handlers.specs.Telling.{reason_of, text_of}
use Rattle.message_parts.specs.declared.stopped.Reason.TheVariants as told
use Rattle.session.specs.declared.event.Event.TheVariants.{Slice}
use Rattle.session.specs.Reached.{Happened, Whole, Cut, led_to}
use Rattle.session.specs.Sessions.{Session}
use Rattle.stepping.specs.Leading.{Makes, PastLeads, oldest}
use Rattle.stepping.specs.StoppingBack.{turned, turned_from}
use Rattle.stepping.specs.Ticks.{Debugged, course_of, outcome_or}
use Rattle.stepping.specs.declared.tick.Outcome.{Outcome}
use Rattle.stepping.specs.declared.tick.Outcome.TheVariants.{Stopped}
use Rattle.stepping.specs.declared.goal.Goal.TheVariants.{ReverseGo}
use Rattle.stepping.specs.declared.tick.Reason.{Reason}
use Rattle.stepping.specs.declared.tick.Reason.TheVariants.{Start}
use Rattle.history_laws.specs.GoingBack.{GoesBackFrom, OfProgram}

-- nothing but time was given: slices, whole or cut
abbrev pub IsTime : Happened → Type 0
IsTime (Whole (Slice n)) = ⊤
IsTime (Whole e) = ⊥
IsTime (Cut n count) = ⊤

-- why a run back stops at a position: for the first kind of breakpoint that stands there, or since nothing older is recorded
abbrev pub stop_at : Lists → Position → Outcome
stop_at lists p = outcome_or (standing_in p.hart.pc p.hart p.memory lists) (Stopped Start)

-- It stands where the run back of that machine stops, for the reason there; or it still runs.
abbrev pub StopsBackThere : Debugged → Program → Type 0
StopsBackThere start p = (p.run ≡ Running) ⊎ ((reason : Reason) × ((p.run ≡ StandsStill (why.Met reason))
    × ((course_of p.machine ≡ turned_from start) × (stop_at start.lists (turned_from start).now ≡ Stopped reason))))

-- what an editor is told where nothing older is recorded (`StoppedEvent`)
at_the_oldest : (reason_of (why.Met Start) ≡ told.Step) × (text_of (why.Met Start) ≡ Some (codes "start of history"))
at_the_oldest = (refl, refl)

-- Where slices leave a program that goes back, until it stops on its way.
abbrev pub RunsBackStopThere : Session → Type 0
RunsBackStopThere s = (p : Program) (from : Course) (slices : List Happened) → s.now.debuggee.program ≡ Some p →
    GoesBackFrom ReverseGo from p → All IsTime slices →
    OfProgram (StopsBackThere p.machine) (led_to slices s).now.debuggee.program

-- ---- where that is

-- as many moves as it has recorded lead there from the oldest recorded position, fewer than were recorded; this is so of that
-- place, or it is the oldest; and it is so of no place that more moves lead to, but for the last
pub record IsNewest (test : Position → Bool) (from stop : Course) : Type 0 where
  pub makes : Makes (length stop.past) (oldest from) stop.now
  pub below : length stop.past < length from.past
  pub met : (test stop.now ≡ true) ⊎ (length stop.past ≡ 0)
  pub greatest : (j : ℕ) (p : Position) → length stop.past < j → j < length from.past → Makes j (oldest from) p → test p ≡ false

-- A run back that stops where this is so stops there.
abbrev pub RunsBackToTheNewest : Type 0
RunsBackToTheNewest = (test : Position → Bool) (from : Course) → PastLeads from → 1 ≤ length from.past →
    IsNewest test from (turned test from.past from.now)
