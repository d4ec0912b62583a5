-- Where a slice stops: there where a run stops, and for that reason.
--
-- Where a run of a debugged machine stops is said of the machine alone (`StopsAt` of `stepping`): at the least number of
-- moves at which a reason applies, for the first of the reasons there. A slice makes moves of such a run, counted from
-- the machine that it begins with: whatever was done to that before, as breakpoints that were set, is in it. Where
-- the slice leaves the program stopped or ended for a reason, the run stops there; where it does not, for none
-- of the moves that were made does a reason apply. So a slice that is granted as many moves as the number stops there,
-- unless it ends before: by a mark or a limit, or while many bytes wait. A program that goes back is no part of this.
--
-- A slice that found no memory is cut after some of its beats. What its last move came to may be owed then: so the run is
-- told here as it is once that is told. The slice after it begins with what is owed. Where that stops the program, no move
-- is made.
use Rattle.std.specs.Prelude.{◌≡◌, ℕ, suc, true, false, if◌then◌else◌, IfSome, Option, Some, None}
use Rattle.debuggee.specs.Programs.{Program, is_running, run_left, stays, told}
use Rattle.debuggee.specs.declared.run.Run.{Run}
use Rattle.debuggee.specs.declared.run.Run.TheVariants.{Stopped as StandsStill, Ended as HasEnded}
use Rattle.debuggee.specs.declared.run.Why.TheVariants as why
use Rattle.session.specs.Effects.{beats, sliced}
use Rattle.session.specs.Sessions.{Session, histories}
use Rattle.stepping.specs.Goals.{turns_back}
use Rattle.stepping.specs.Stopping.{NoneBelow, StopsAt}
use Rattle.stepping.specs.Ticks.{Debugged}
use Rattle.stepping.specs.declared.tick.Outcome.{Outcome}
use Rattle.stepping.specs.declared.tick.Outcome.TheVariants.{Stopped, Ended}
use Rattle.stepping.specs.declared.tick.Tick.{Tick}

-- the number that comes next after this many moves: the one of the check at the entry as long as that is due
abbrev pub next_number : ℕ → Debugged → ℕ
next_number moved d = if d.check_due then moved else suc moved

-- the number of the last tick after this many moves, by what it came to: an instruction that stays was met by one more
abbrev pub number_of : ℕ → Outcome → ℕ
number_of moved outcome = if stays outcome then suc moved else moved

-- what this many moves from a machine say of its run, by how the program runs then
abbrev pub SaysWhere : ℕ → Run → Debugged → Debugged → Type 0
SaysWhere moved (StandsStill (why.Met reason)) start now =
    StopsAt (number_of moved (Stopped reason)) (Stopped reason) start
SaysWhere moved (HasEnded (Some code)) start now = StopsAt (suc moved) (Ended code) start
SaysWhere moved other start now = NoneBelow (next_number moved now) start

-- what a slice says of the run that it continues
abbrev pub SaysWhereIn : ℕ → Option Program → Debugged → Type 0
SaysWhereIn moved None start = ⊥
SaysWhereIn moved (Some p) start = SaysWhere moved (run_left p.owed p.run) start p.machine

-- the machine with which it begins, once what is owed is told
abbrev pub machine_told : Option Tick → Program → Debugged
machine_told None p = p.machine
machine_told (Some tick) p = (told p).machine

-- the program stands still, or has ended, or will once what it owes is told
abbrev pub StaysAs : Run → Option Program → Type 0
StaysAs run None = ⊥
StaysAs run (Some p) = run_left p.owed p.run ≡ run

-- What a slice says is so, where the program runs and continues once what it owes is told; else it makes no move. So it is
-- after each number of its beats; and where it is whole, it leaves nothing owed.
pub record SlicesStopThere (s : Session) : Type 0 where
  pub goes : (p : Program) (n count : ℕ) → s.now.debuggee.program ≡ Some p → is_running (run_left p.owed p.run) ≡ true →
      turns_back p.machine.goal ≡ false → let d = beats histories n count s in
      SaysWhereIn d.moved d.state.now.debuggee.program (machine_told p.owed p)
  pub whole : (p : Program) (n : ℕ) → s.now.debuggee.program ≡ Some p → is_running (run_left p.owed p.run) ≡ true →
      turns_back p.machine.goal ≡ false → IfSome (sliced histories n s).state.now.debuggee.program (λ q. q.owed ≡ None)
  pub stands : (p : Program) (n count : ℕ) → s.now.debuggee.program ≡ Some p → is_running (run_left p.owed p.run) ≡ false →
      let d = beats histories n count s in
      (d.moved ≡ 0) × StaysAs (run_left p.owed p.run) d.state.now.debuggee.program
