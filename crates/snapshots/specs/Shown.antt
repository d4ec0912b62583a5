-- What an editor could see of the program that is debugged, as facts.
--
-- A snapshot has more than an editor can ask for. This is the part that messages tell: whether the machine runs, its
-- breakpoints, the frames of its call stack with the numbers that they have in this stop, its registers, and its memory.
use Rattle.std.specs.Prelude.{ℕ, ◌==◌, nat_lt, unwrap_or, if◌then◌else◌, List, [], false, map, slice_get, slice_index, Option, Some, None, bytes_eq}
use Rattle.answers.specs.StackTrace.{addresses, name_at}
use Rattle.breakpoints.specs.Stops.{Placed}
use Rattle.debuggee.specs.Programs.{Debuggee, Program}
use Rattle.debuggee.specs.declared.run.Run.{Run}
use Rattle.debuggee.specs.declared.run.Run.TheVariants as run
use Rattle.image.specs.Lines.{Table}
use Rattle.image.specs.Memory.{byte_at}
use Rattle.facts.specs.Facts.{Facts, nothing_known}
use Rattle.facts.specs.declared.breakpoint.BreakInfo.{BreakInfo}
use Rattle.facts.specs.declared.frame.FrameInfo.{FrameInfo}
use Rattle.facts.specs.declared.run.RunState.{RunState}
use Rattle.facts.specs.declared.run.RunState.TheVariants.{Running, Stopped, Ended}
use Rattle.rv32i.specs.declared.hart.Hart.{Hart}
use Rattle.variables.specs.Numbers.{Numbers, number_in}
use Rattle.variables.specs.declared.target.Target.TheVariants.{Frame}

-- what is seen at one time: the program that is debugged, and the numbers of its frames and scopes
pub record Snapshot : Type 0 where
  pub debuggee : Debuggee
  pub numbers : Numbers

-- how a program runs
abbrev pub state_of : Run → RunState
state_of run.Running = Running
state_of (run.Stopped why) = Stopped
state_of (run.Ended code) = Ended code

-- a breakpoint that is set
abbrev pub info_of : Placed → BreakInfo
info_of b = record { id = b.id; address = b.address }

-- the breakpoints of a source: those of the program's own path
abbrev pub listed_at : List ℕ → List BreakInfo → List ℕ → List BreakInfo
listed_at path breaks asked = if bytes_eq path asked then breaks else []

-- a number, or 0 where there is none
abbrev pub or_zero : Option ℕ → ℕ
or_zero number = unwrap_or number 0

-- the frame of an index, at an address
abbrev pub frame_in : Table → Numbers → ℕ → ℕ → FrameInfo
frame_in table numbers index address =
    record { id = or_zero (number_in numbers (Frame index)); address = address; name = name_at table address }

abbrev pub frame_at : Table → Numbers → ℕ → Option ℕ → Option FrameInfo
frame_at table numbers index None = None
frame_at table numbers index (Some address) = Some (frame_in table numbers index address)

-- the value of a register; the last one is pc
abbrev pub register_at : Hart → ℕ → Option ℕ
register_at hart number = if number == 32 then Some hart.pc
    else if nat_lt number 32 then Some (slice_index hart.x number) else None

-- what an editor could see of a program
abbrev pub shown_of : Program → Numbers → Facts
shown_of p numbers = record {
  run = state_of p.run;
  launched = false;
  source = listed_at p.path (map info_of p.machine.lists.source);
  instructions = map info_of p.machine.lists.instructions;
  functions = map info_of p.machine.lists.functions;
  frame = λ index. frame_at p.image.lines numbers index (slice_get (addresses p.machine) index);
  register = register_at p.machine.hart;
  byte = byte_at p.machine.memory;
}

abbrev pub shown_by : Option Program → Numbers → Facts
shown_by None numbers = nothing_known
shown_by (Some p) numbers = shown_of p numbers

-- what an editor could see
abbrev pub shown : Snapshot → Facts
shown s = shown_by s.debuggee.program s.numbers
