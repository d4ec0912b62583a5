-- The program that is debugged, in range.
--
-- Its image is, and its machine is. All that is done to a program (`Programs` of `debuggee`) leaves it so: it is loaded
-- and loaded anew, it begins, moves, is marked, stops and ends, and its breakpoints are replaced. So whoever has one
-- program and does nothing else to it has a program in range for ever, if it was at first.
use Rattle.std.specs.Prelude.{ℕ, ℤ, ◌+◌, Bool, List, Option}
use Rattle.breakpoints.specs.Stops.{Wanted}
use Rattle.debuggee.specs.Programs.{Advances, GoesQuietly, Program, ended, entered, first_run, just_loaded, left}
use Rattle.debuggee.specs.Programs.{marked, moved, restarted, resumed, stopped, told, with_functions, with_hart, with_instructions}
use Rattle.debuggee.specs.Programs.{with_source, written}
use Rattle.debuggee.specs.declared.program.Advanced.{Advanced}
use Rattle.debuggee.specs.declared.run.Mark.{Mark}
use Rattle.debuggee.specs.declared.run.Why.{Why}
use Rattle.image.specs.Memory.{first_address}
use Rattle.image.specs.declared.Image.{Image}
use Rattle.rv32i.specs.declared.hart.Hart.{Hart}
use Rattle.stepping.specs.declared.goal.Goal.{Goal}
use Rattle.range_laws.specs.Debugging.{DebuggedInRange, HartInRange, ImageInRange}
use Rattle.range_laws.specs.Machines.{AreBytes, IsWord}

-- A program whose image and machine are in range.
pub record ProgramInRange (p : Program) : Type 0 where
  pub image : ImageInRange p.image
  pub machine : DebuggedInRange p.machine

-- A program that was just loaded is one, where its image is in range and memory ends at an address.
abbrev pub JustLoadedIsInRange : Type 0
JustLoadedIsInRange = (image : Image) (path : List ℕ) (stop_on_entry : Bool) (size : ℕ) → ImageInRange image →
    IsWord (first_address + size) → ProgramInRange (just_loaded image path stop_on_entry size)

-- what leaves a program in range
abbrev pub KeepsInRange : (Program → Program) → Type 0
KeepsInRange f = (p : Program) → ProgramInRange p → ProgramInRange (f p)

-- All that is done to a program leaves it in range: what begins, stops and ends its run,
pub record RunsStayInRange : Type 0 where
  pub stopped : (reason : Why) → KeepsInRange (stopped reason)
  pub ended : (code : Option ℤ) → KeepsInRange (ended code)
  pub resumed : (goal : Goal) → KeepsInRange (resumed goal)
  pub first_run : KeepsInRange first_run
  pub restarted : KeepsInRange restarted
  pub marked : (mark : Mark) → KeepsInRange (marked mark)

-- its moves, one by one and many at once,
pub record ProgramsMoveInRange : Type 0 where
  pub entered : KeepsInRange entered
  pub moved : KeepsInRange moved
  pub quietly : (n : ℕ) (p q : Program) → GoesQuietly n p q → ProgramInRange p → ProgramInRange q
  pub advances :
      (most : ℕ) (p q : Program) (advanced : Advanced) → Advances most p advanced q → ProgramInRange p
      → ProgramInRange q

-- and what is told of it and asked of it.
pub record RequestsStayInRange : Type 0 where
  pub told : KeepsInRange told
  pub with_source : (wanted : List Wanted) → KeepsInRange (with_source wanted)
  pub with_instructions : (wanted : List Wanted) → KeepsInRange (with_instructions wanted)
  pub with_functions : (wanted : List Wanted) → KeepsInRange (with_functions wanted)
  pub left : KeepsInRange left
  pub written : (address : ℕ) (bytes : List ℕ) → AreBytes bytes → KeepsInRange (written address bytes)
  pub hart : (hart : Hart) → HartInRange hart → KeepsInRange (with_hart hart)
