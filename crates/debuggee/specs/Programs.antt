-- The program that is debugged (Debug Adapter Protocol: the debuggee).
--
-- There is one machine at most. Into it a program was loaded: an image, which an assembler made of a file. It stands
-- still at its entry then, and begins when it is told to. It runs move by move for as long as it is given time. Moves
-- are those of a debugged machine, and so are the reasons for which one of them ends a run; beside these, a program
-- stands still where it was marked, and where as many instructions have retired as may.
--
-- What a move comes to is to be told to whoever debugs the program: a number that it printed, what logpoints say, and
-- why it stops. It is owed from the move on until it is told, and the program still runs while it is owed. A trap and
-- the end of the program retire nothing: their instruction stays, to be met again, and nothing is owed of it.
--
-- A program may go back: then a move undoes the newest of those that are recorded. These are given up where its
-- machine is changed from outside.
--
-- A machine has one tick: it has one, and no second (the laws `each_machine_ticks` and `tick_is_deterministic` of
-- `stepping`). `the_tick` is that one, with what it answers and what it leaves.
use Rattle.std.specs.Prelude.{◌≡◌, ◌≢◌, ◌<◌, zero, suc, ℕ, ℤ}
use Rattle.std.specs.Prelude.{Bool, true, false, if◌then◌else◌, List, [], length, map, Option, Some, None, Result, Err}
use Rattle.breakpoints.specs.Stops.{Wanted, fresh}
use Rattle.image.specs.Memory.{NeedsPage, fault_at, memory_after, unless_fault, with_bytes}
use Rattle.image.specs.declared.Image.{Image}
use Rattle.image.specs.declared.fault.MemFault.{MemFault}
use Rattle.image.specs.declared.fault.MemFault.TheVariants.{NoMemory}
use Rattle.rv32i.specs.declared.hart.Hart.{Hart}
use Rattle.course.specs.Positions.{past_left}
use Rattle.stepping.specs.Loading.{loaded, no_breakpoints, reloaded}
use Rattle.stepping.specs.Runs.{MayLackMemory}
use Rattle.stepping.specs.Ticks.{Debugged, entry_tick, entry_checked}
use Rattle.stepping.specs.declared.goal.Goal.{Goal}
use Rattle.stepping.specs.declared.goal.Goal.TheVariants.{Go}
use Rattle.stepping.specs.declared.tick.Outcome.{Outcome}
use Rattle.stepping.specs.declared.tick.Outcome.TheVariants.{Went, Stopped as HasStopped, Ended as HasEnded}
use Rattle.stepping.specs.declared.tick.Reason.{Reason}
use Rattle.stepping.specs.declared.tick.Reason.TheVariants.{Exception, Ebreak, Source, Instruction, Function, Goal as GoalMet, Start}
use Rattle.stepping.specs.declared.tick.Tick.{Tick}
use Rattle.stepping.proofs.Existing.{the_tick}
use Rattle.debuggee.specs.declared.program.Advanced.{Advanced}
use Rattle.debuggee.specs.declared.program.Advanced.TheVariants.{Spent, HasOutput, Stops, OutOfMemory}
use Rattle.debuggee.specs.declared.run.Run.{Run}
use Rattle.debuggee.specs.declared.run.Run.TheVariants.{Running, Stopped, Ended}
use Rattle.debuggee.specs.declared.run.Mark.{Mark}
use Rattle.debuggee.specs.declared.run.Mark.TheVariants.{Entry as MarkEntry, Pause as MarkPause, Hold as MarkHold}
use Rattle.debuggee.specs.declared.run.Why.{Why}
use Rattle.debuggee.specs.declared.run.Why.TheVariants as why

-- A program that was loaded: its image, and the path of its file; whether it was launched to stop at its entry; whether
-- it runs, and its mark, if it has one; its machine; and what it owes, if it owes something.
pub record Program : Type 0 where
  pub image : Image
  pub path : List ℕ
  pub stop_on_entry : Bool
  pub run : Run
  pub mark : Option Mark
  pub machine : Debugged
  pub owed : Option Tick

-- one that was just loaded, into a machine of this size: it stands still at its entry, without a breakpoint
abbrev pub just_loaded : Image → List ℕ → Bool → ℕ → Program
just_loaded image path stop_on_entry size = record {
  image = image;
  path = path;
  stop_on_entry = stop_on_entry;
  run = Stopped why.Entry;
  mark = None;
  machine = loaded image size no_breakpoints;
  owed = None;
}

-- it runs
abbrev pub is_running : Run → Bool
is_running Running = true
is_running (Stopped reason) = false
is_running (Ended code) = false

-- it has ended
abbrev pub is_ended : Run → Bool
is_ended Running = false
is_ended (Stopped reason) = false
is_ended (Ended code) = true

-- why a program with this mark stands still
abbrev pub why_marked : Mark → Why
why_marked MarkEntry = why.Entry
why_marked MarkPause = why.Pause
why_marked MarkHold = why.Pause

-- the first of two marks, if there is one
abbrev pub first_mark : Option Mark → Option Mark → Option Mark
first_mark None other = other
first_mark (Some mark) other = Some mark

-- ---- what is done to a program

-- It stops, for this reason. A mark has done its work then.
abbrev pub stopped : Why → Program → Program
stopped reason p = record p { run = Stopped reason; mark = None }

-- it ends
abbrev pub ended : Option ℤ → Program → Program
ended code p = record p { run = Ended code; mark = None }

-- a machine begins a run with a goal, from the depth that it has; the check at the entry is due, or is not
abbrev pub begun : Goal → Bool → Debugged → Debugged
begun goal first d = record d { goal = goal; start = d.calls.depth; check_due = first }

-- it continues, with a goal; no other run than the first makes the check at the entry
abbrev pub resumed : Goal → Program → Program
resumed goal p = record p { run = Running; machine = begun goal false p.machine }

-- the mark of a program that is launched to stop at its entry
abbrev pub entry_mark : Bool → Option Mark
entry_mark stop_on_entry = if stop_on_entry then Some MarkEntry else None

-- its first run begins, with the check at the entry; a mark that is set stays
abbrev pub first_run : Program → Program
first_run p = record p {
  run = Running;
  mark = first_mark p.mark (entry_mark p.stop_on_entry);
  machine = begun Go true p.machine;
}

-- it is loaded anew: its breakpoints stay, and so does all else but the machine
abbrev pub restarted : Program → Program
restarted p = record p { machine = reloaded p.image p.machine }

-- it is marked, if it runs and has no mark yet
abbrev pub marked_by : Run → Mark → Program → Program
marked_by Running mark p = record p { mark = first_mark p.mark (Some mark) }
marked_by (Stopped reason) mark p = p
marked_by (Ended code) mark p = p

abbrev pub marked : Mark → Program → Program
marked mark p = marked_by p.run mark p

-- ---- what a move leaves

-- what there is to tell of a tick, by the logpoints that have something to say after it: nothing where the machine
-- continues, nothing was printed, and there are no such logpoints
abbrev pub owing_by : Option ℤ → Outcome → List ℕ → Option Tick
owing_by None Went [] = None
owing_by printed outcome logs = Some (record { printed = printed; outcome = outcome })

-- what there is to tell of a tick that left this machine
abbrev pub owing : Tick → Debugged → Option Tick
owing tick after = owing_by tick.printed tick.outcome after.lists.logs

-- the check at the entry is made; what it came to is owed
abbrev pub entered : Program → Program
entered p = let after = entry_checked p.machine in record p { machine = after; owed = owing (entry_tick p.machine) after }

-- what its next move comes to, and what that leaves: where there is something to tell of it, it is owed
abbrev pub next_tick : Program → Tick
next_tick p = (the_tick p.machine).tick

abbrev pub moved : Program → Program
moved p = let after = (the_tick p.machine).after in record p { machine = after; owed = owing (next_tick p) after }

-- the run after a tick that was told, or that nobody will be told of
abbrev pub run_after : Outcome → Run → Run
run_after Went run = run
run_after (HasStopped reason) run = Stopped (why.Met reason)
run_after (HasEnded code) run = Ended (Some code)

-- What it owes was told: the breakpoints that stopped it are named no more, nor are the logpoints that had something to
-- say. Its run is as it was.
abbrev pub told : Program → Program
told p = record p { machine = record p.machine { lists = record p.machine.lists { ids = []; logs = [] } }; owed = None }

-- No breakpoint is named that stopped it, and no logpoint that has something to say.
abbrev pub NamesNone : Debugged → Type 0
NamesNone d = (d.lists.ids ≡ []) × (d.lists.logs ≡ [])

-- ---- its breakpoints are replaced

-- Those of source lines are now these, with no hits yet, or those of instructions or of functions are. The
-- others stay, with their hits. A stop that is owed still is, and names no breakpoint: what stopped it may be set no
-- more. Nor does a logpoint say what it had to say.
abbrev pub with_source : List Wanted → Program → Program
with_source wanted p = record p {
  machine = record p.machine { lists = record p.machine.lists { source = map fresh wanted; ids = []; logs = [] } };
}

abbrev pub with_instructions : List Wanted → Program → Program
with_instructions wanted p = record p {
  machine = record p.machine { lists = record p.machine.lists { instructions = map fresh wanted; ids = []; logs = [] } };
}

abbrev pub with_functions : List Wanted → Program → Program
with_functions wanted p = record p {
  machine = record p.machine { lists = record p.machine.lists { functions = map fresh wanted; ids = []; logs = [] } };
}

-- ---- its machine is changed from outside

-- Its hart has these registers and this pc. Its past is given up: no recorded move led there.
abbrev pub with_hart : Hart → Program → Program
with_hart hart p = record p { machine = record p.machine { hart = hart; past = [] } }

-- Bytes are written to its memory, from an address on, and its past is given up; where one of their addresses has no
-- byte, nothing is written, and the past stays.
abbrev pub written : ℕ → List ℕ → Program → Program
written address bytes p = let memory = p.machine.memory in let fault = fault_at memory 1 address (length bytes) in record p {
  machine = record p.machine {
    memory = memory_after fault (with_bytes memory address bytes) memory;
    past = past_left (unless_fault fault (tt {0})) p.machine.past;
  };
}

-- What a call that does so answers: the fault, if there is one; or that no memory was left for a page which is written
-- first, and then nothing is written.
abbrev pub IsWritten : ℕ → List ℕ → Program → Result (Unit {0}) MemFault → Program → Type 0
IsWritten address bytes before (Err NoMemory) after =
    NeedsPage 1 before.machine.memory address (length bytes) × (after ≡ before)
IsWritten address bytes before answer after =
    (answer ≡ unless_fault (fault_at before.machine.memory 1 address (length bytes)) tt)
    × (after ≡ written address bytes before)

-- ---- an editor goes

-- the run that is left of one that owes this: a stop that is owed is made
abbrev pub run_left : Option Tick → Run → Run
run_left None run = run
run_left (Some tick) run = run_after tick.outcome run

-- Its breakpoints and its mark go; a stop that is owed is made, and told to nobody.
abbrev pub left : Program → Program
left p = record p {
  run = run_left p.owed p.run;
  mark = None;
  machine = record p.machine { lists = no_breakpoints };
  owed = None;
}

-- ---- the one program, if there is one

-- the program that is debugged, if one was loaded; and the last number that a breakpoint was given
pub record Debuggee : Type 0 where
  pub program : Option Program
  pub last_break : ℕ

-- the program, if there is one, is now as that makes of it
abbrev pub on_program : (Program → Program) → Option Program → Option Program
on_program f None = None
on_program f (Some p) = Some (f p)

abbrev pub with_program : (Program → Program) → Debuggee → Debuggee
with_program f d = record d { program = on_program f d.program }

-- ---- many moves at once

-- whether it is an exception (ISA 1.6: a trap)
abbrev pub is_exception : Reason → Bool
is_exception (Exception cause) = true
is_exception Ebreak = false
is_exception Source = false
is_exception Instruction = false
is_exception Function = false
is_exception GoalMet = false
is_exception Start = false

-- Whether an instruction stays that comes to this: one that traps or ends the program does not retire.
abbrev pub stays : Outcome → Bool
stays Went = false
stays (HasStopped reason) = is_exception reason
stays (HasEnded code) = true

-- this many moves, with nothing to tell of them
abbrev pub GoesQuietly : ℕ → Program → Program → Type 0
GoesQuietly zero p q = q ≡ p
GoesQuietly (suc n) p q = (middle : Program)
    × (GoesQuietly n p middle × (((moved middle).owed ≡ None) × (q ≡ moved middle)))

-- What at most `most` moves lead to: all of them, with nothing to tell; or `n`, where the last is to be told; or `n`,
-- before an instruction that stays; or `n`, before one for which no memory was left.
abbrev pub Advances : ℕ → Program → Advanced → Program → Type 0
Advances most p Spent q = GoesQuietly most p q
Advances most p (HasOutput n) q = (middle : Program) × (k : ℕ) × ((n ≡ suc k) × ((k < most) × (GoesQuietly k p middle
    × ((stays (next_tick middle).outcome ≡ false) × (((moved middle).owed ≢ None) × (q ≡ moved middle))))))
Advances most p (Stops n tick) q =
    (n < most) × (GoesQuietly n p q × ((next_tick q ≡ tick) × (stays tick.outcome ≡ true)))
Advances most p (OutOfMemory n) q = (n < most) × (GoesQuietly n p q × MayLackMemory q.machine)
