-- What a snapshot keeps of a session: the program that is debugged, as far as an editor could be told of it.
use Rattle.std.specs.Prelude.{◌≡◌, ℕ, ◌+◌, List, [], ◌∷◌, false, map, slice_get, option_map, Option, Some, None}
use Rattle.answers.specs.StackTrace.{addresses}
use Rattle.debuggee.specs.Programs.{Program}
use Rattle.facts.specs.Facts.{Facts, nothing_known}
use Rattle.facts.specs.declared.breakpoint.BreakInfo.{BreakInfo}
use Rattle.facts.specs.declared.frame.FrameInfo.{FrameInfo}
use Rattle.facts.specs.declared.run.RunState.{RunState}
use Rattle.facts.specs.declared.run.RunState.TheVariants.{Unknown, Running}
use Rattle.image.specs.Lines.{Table}
use Rattle.image.specs.Memory.{byte_at}
use Rattle.rv32i.specs.declared.hart.Hart.{Hart}
use Rattle.snapshots.specs.Shown.{Snapshot, frame_in, info_of, listed_at, register_at, shown, state_of}
use Rattle.variables.specs.Numbers.{Numbers}

-- what is kept of a program
pub record Captured : Type 0 where
  -- whether it runs
  pub run : RunState
  -- the path of its file
  pub path : List ℕ
  -- its breakpoints in the source, those at instructions, and those of functions
  pub source : List BreakInfo
  pub instructions : List BreakInfo
  pub functions : List BreakInfo
  -- the frames of its call stack, the innermost first
  pub frames : List FrameInfo
  -- its registers and its memory
  pub hart : Hart
  pub memory : List ℕ

-- the frames at these addresses, by their indices from this one on
abbrev pub frames_from : Table → Numbers → ℕ → List ℕ → List FrameInfo
frames_from table numbers index [] = []
frames_from table numbers index (address ∷ addresses) =
    frame_in table numbers index address ∷ frames_from table numbers (index + 1) addresses

-- what is kept of it, where frames have these numbers
abbrev pub captured_of : Program → Numbers → Captured
captured_of p numbers = record {
  run = state_of p.run;
  path = p.path;
  source = map info_of p.machine.lists.source;
  instructions = map info_of p.machine.lists.instructions;
  functions = map info_of p.machine.lists.functions;
  frames = frames_from p.image.lines numbers 0 (addresses p.machine);
  hart = p.machine.hart;
  memory = p.machine.memory;
}

-- what is kept of a session at one time
abbrev pub captured : Snapshot → Option Captured
captured s = option_map (λ p. captured_of p s.numbers) s.debuggee.program

-- ---- what it says

-- what is kept of a program, as facts
abbrev pub facts_in : Captured → Facts
facts_in c = record {
  run = c.run;
  launched = false;
  source = listed_at c.path c.source;
  instructions = c.instructions;
  functions = c.functions;
  frame = slice_get c.frames;
  register = register_at c.hart;
  byte = byte_at c.memory;
}

-- what was seen, as facts
abbrev pub seen_of : Option Captured → Facts
seen_of None = nothing_known
seen_of (Some c) = facts_in c

-- the path of the program's file, if there was a program
abbrev pub path_of : Option Captured → Option (List ℕ)
path_of = option_map (λ c. c.path)

-- A snapshot was taken of what an editor could see: its facts are those, and its path is that of the program.
pub record IsTaken (taken : Option Captured) (seen : Snapshot) : Type 0 where
  pub facts : seen_of taken ≡ shown seen
  pub path : path_of taken ≡ option_map (λ p. p.path) seen.debuggee.program

-- a way to run, where there was a program
abbrev pub run_if : Option Captured → RunState → RunState
run_if None run = Unknown
run_if (Some c) run = run

-- what was seen, but of a program that runs
abbrev pub as_running : Option Captured → Option Captured
as_running None = None
as_running (Some c) = Some (record c { run = Running })
