-- What is done to a program leaves it in range.
use Rattle.range_laws.proofs.Common.{AreBytes, Bool, DebuggedInRange, false, HartInRange, List, Option, subst, suc, sym, zero, ℕ}
use Rattle.std.proofs.Common.{ℤ}
use Rattle.breakpoints.specs.Stops.{Lists, Wanted}
use Rattle.debuggee.specs.Programs.{Advances, GoesQuietly, Program, ended, entered, first_run, left, marked, marked_by, moved, restarted, resumed, stopped, told, with_functions, with_hart, with_instructions, with_source, written}
use Rattle.debuggee.specs.declared.program.Advanced.{Advanced}
use Rattle.debuggee.specs.declared.program.Advanced.TheVariants.{Spent, HasOutput, Stops, OutOfMemory}
use Rattle.debuggee.specs.declared.run.Mark.{Mark}
use Rattle.debuggee.specs.declared.run.Run.{Run}
use Rattle.debuggee.specs.declared.run.Run.TheVariants.{Running, Stopped, Ended}
use Rattle.debuggee.specs.declared.run.Why.{Why}
use Rattle.stepping.specs.Loading.{no_breakpoints}
use Rattle.rv32i.specs.declared.hart.Hart.{Hart}
use Rattle.std.specs.Prelude.{Ok}
use Rattle.stepping.specs.Ticks.{Debugged}
use Rattle.stepping.specs.declared.goal.Goal.{Goal}
use Rattle.stepping.proofs.Existing.{the_tick}
use Rattle.range_laws.specs.Programs.{JustLoadedIsInRange, KeepsInRange, ProgramInRange, ProgramsMoveInRange, RequestsStayInRange, RunsStayInRange}
use Rattle.range_laws.proofs.Debugging.{begun_in_range, harts_stay_in_range, lists_in_range, loaded_is_in_range, reloaded_is_in_range, ticks_stay_in_range, writes_stay_in_range}

pub just_loaded_in_range : JustLoadedIsInRange
just_loaded_in_range image path stop_on_entry size h w = record { image = h; machine = loaded_is_in_range image size no_breakpoints h w }

-- ---- its run

pub stopped_in_range : (reason : Why) → KeepsInRange (stopped reason)
stopped_in_range reason p h = record { image = h.image; machine = h.machine }

pub ended_in_range : (code : Option ℤ) → KeepsInRange (ended code)
ended_in_range code p h = record { image = h.image; machine = h.machine }

pub resumed_in_range : (goal : Goal) → KeepsInRange (resumed goal)
resumed_in_range goal p h = record { image = h.image; machine = begun_in_range _ _ _ p.machine h.machine }

pub first_run_in_range : KeepsInRange first_run
first_run_in_range p h = record { image = h.image; machine = begun_in_range _ _ _ p.machine h.machine }

pub restarted_in_range : KeepsInRange restarted
restarted_in_range p h = record { image = h.image; machine = reloaded_is_in_range p.image p.machine h.image h.machine }

marked_by_in_range : (run : Run) (mark : Mark) → KeepsInRange (marked_by run mark)
marked_by_in_range Running mark p h = record { image = h.image; machine = h.machine }
marked_by_in_range (Stopped reason) mark p h = h
marked_by_in_range (Ended code) mark p h = h

pub marked_in_range : (mark : Mark) → KeepsInRange (marked mark)
marked_in_range mark p h = marked_by_in_range p.run mark p h

pub runs_stay_in_range : RunsStayInRange
runs_stay_in_range = record {
  stopped = stopped_in_range;
  ended = ended_in_range;
  resumed = resumed_in_range;
  first_run = first_run_in_range;
  restarted = restarted_in_range;
  marked = marked_in_range;
}

-- ---- its moves

pub entered_in_range : KeepsInRange entered
entered_in_range p h =
    record { image = h.image; machine = lists_in_range _ _ (begun_in_range p.machine.goal p.machine.start false p.machine h.machine) }

pub moved_in_range : KeepsInRange moved
moved_in_range p h =
    let t = the_tick p.machine in record { image = h.image; machine = ticks_stay_in_range p.machine t.after (Ok t.tick) t.is h.machine }

pub quietly_in_range : (n : ℕ) (p q : Program) → GoesQuietly n p q → ProgramInRange p → ProgramInRange q
quietly_in_range zero p q e h = subst ProgramInRange (sym e) h
quietly_in_range (suc n) p q (middle, (goes, (plain, e))) h =
    subst ProgramInRange (sym e) (moved_in_range middle (quietly_in_range n p middle goes h))

pub advances_in_range : (most : ℕ) (p q : Program) (advanced : Advanced) → Advances most p advanced q → ProgramInRange p → ProgramInRange q
advances_in_range most p q Spent goes h = quietly_in_range most p q goes h
advances_in_range most p q (HasOutput n) (middle, k, (counts, (few, (goes, (stays, (tells, e)))))) h =
    subst ProgramInRange (sym e) (moved_in_range middle (quietly_in_range k p middle goes h))
advances_in_range most p q (Stops n tick) (few, (goes, rest)) h = quietly_in_range n p q goes h
advances_in_range most p q (OutOfMemory n) (few, (goes, needs)) h = quietly_in_range n p q goes h

pub programs_move_in_range : ProgramsMoveInRange
programs_move_in_range = record {
  entered = entered_in_range;
  moved = moved_in_range;
  quietly = quietly_in_range;
  advances = advances_in_range;
}

-- ---- what is told of it and asked of it

pub told_in_range : KeepsInRange told
told_in_range p h = record { image = h.image; machine = lists_in_range _ p.machine h.machine }

pub with_source_in_range : (wanted : List Wanted) → KeepsInRange (with_source wanted)
with_source_in_range wanted p h = record { image = h.image; machine = lists_in_range _ p.machine h.machine }

pub with_instructions_in_range : (wanted : List Wanted) → KeepsInRange (with_instructions wanted)
with_instructions_in_range wanted p h = record { image = h.image; machine = lists_in_range _ p.machine h.machine }

pub with_functions_in_range : (wanted : List Wanted) → KeepsInRange (with_functions wanted)
with_functions_in_range wanted p h = record { image = h.image; machine = lists_in_range _ p.machine h.machine }

pub left_in_range : KeepsInRange left
left_in_range p h = record { image = h.image; machine = lists_in_range _ p.machine h.machine }

pub written_in_range : (address : ℕ) (bytes : List ℕ) → AreBytes bytes → KeepsInRange (written address bytes)
written_in_range address bytes w p h = record { image = h.image; machine = writes_stay_in_range p.machine address bytes w h.machine }

pub with_hart_in_range : (hart : Hart) → HartInRange hart → KeepsInRange (with_hart hart)
with_hart_in_range hart w p h = record { image = h.image; machine = harts_stay_in_range p.machine hart w h.machine }

pub requests_stay_in_range : RequestsStayInRange
requests_stay_in_range = record {
  told = told_in_range;
  with_source = with_source_in_range;
  with_instructions = with_instructions_in_range;
  with_functions = with_functions_in_range;
  left = left_in_range;
  written = written_in_range;
  hart = with_hart_in_range;
}
