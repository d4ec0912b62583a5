-- One tick of a debugged machine.
--
-- A tick is one move of the hart (RISC-V Unprivileged ISA 20191213, chapter 2) with all that a debugger makes of it.
-- Where the instruction retires, the call stack takes its marks, and the breakpoints at the new pc are looked at. The
-- first reason to stop counts: a trap, the end of the program, EBREAK, a breakpoint of a source line, a breakpoint of
-- an instruction, a breakpoint of a function, the goal. A logpoint is none: what it has to say stands in the lists.
--
-- A first run, of a program that was just loaded, begins with a tick of its own: the breakpoints at the entry are
-- looked at, and nothing moves.
--
-- The last 65,536 moves at which an instruction retired are recorded. Where a run goes back, a tick undoes the newest of
-- them: hart, memory and calls are as they were before it, and the instruction is no longer counted. Breakpoints stay
-- as they are, with their hits. A step back ends with that; a run back continues until a breakpoint stands at pc, or
-- nothing is recorded any more. Where nothing is recorded, such a tick undoes nothing.
use Rattle.std.specs.Prelude.{◌≡◌, ℕ, ◌+◌, ◌-◌, Bool, false, if◌then◌else◌, List, [], ◌∷◌, Option, Some, None}
use Rattle.std.specs.Prelude.{Result, Ok, MatchBool}
use Rattle.std.specs.declared.alloc.AllocError.{AllocError}
use Rattle.breakpoints.specs.Stops.{Lists, checked, hit_in, looked, standing_in}
use Rattle.breakpoints.specs.declared.breakpoint.Hit.{Hit}
use Rattle.image.specs.Lines.{Table}
use Rattle.rv32i.specs.Machine.{IsMove, machine_of}
use Rattle.rv32i.specs.declared.hart.Hart.{Hart}
use Rattle.rv32i.specs.declared.instr.Instr.{Instr}
use Rattle.rv32i.specs.declared.stepped.Stepped.{Stepped}
use Rattle.rv32i.specs.declared.stepped.Stepped.TheVariants as stepped
use Rattle.course.specs.Calls.{Kept}
use Rattle.course.specs.Positions.{Course, IsFetched, Position, noted_if, recorded}
use Rattle.stepping.specs.Goals.{is_met, turns_back}
use Rattle.stepping.specs.declared.goal.Goal.{Goal}
use Rattle.stepping.specs.declared.goal.Goal.TheVariants as goal
use Rattle.stepping.specs.declared.tick.Outcome.{Outcome}
use Rattle.stepping.specs.declared.tick.Outcome.TheVariants.{Went, Stopped, Ended}
use Rattle.stepping.specs.declared.tick.Reason.TheVariants as why
use Rattle.stepping.specs.declared.tick.Tick.{Tick}

-- A debugged machine: hart, memory and its size; the calls kept; breakpoints; how many instructions have retired
-- since it was loaded; where it was before the recorded moves, the newest first; the goal of its run and the depth at
-- the start of that; whether the check at the entry is due; and its line table.
pub record Debugged : Type 0 where
  pub hart : Hart
  pub memory : List ℕ
  pub size : ℕ
  pub calls : Kept
  pub lists : Lists
  pub retired : ℕ
  pub past : List Position
  pub goal : Goal
  pub start : ℕ
  pub check_due : Bool
  pub table : Table

-- where its program stands
abbrev pub position_of : Debugged → Position
position_of d = record { hart = d.hart; memory = d.memory; calls = d.calls }

-- and where it stood before the recorded moves
abbrev pub course_of : Debugged → Course
course_of d = record { now = position_of d; past = d.past }

-- what the breakpoints come to, or else this
abbrev pub outcome_or : Hit → Outcome → Outcome
outcome_or hit other =
    if hit.source then Stopped why.Source
    else if hit.instruction then Stopped why.Instruction
    else if hit.function then Stopped why.Function
    else other

-- what the breakpoints come to, and then the goal
abbrev pub outcome_of : Hit → Bool → Outcome
outcome_of hit goal_met = outcome_or hit (if goal_met then Stopped why.Goal else Went)

-- the breakpoints that stop at pc
abbrev pub hit_at_pc : Debugged → Hit
hit_at_pc d = hit_in d.hart.pc d.hart d.memory d.lists

-- the breakpoints at pc were looked at
abbrev pub with_check : Debugged → Debugged
with_check d = record d { lists = checked d.hart.pc d.hart d.memory d.lists }

-- what a look at pc finds: the breakpoints, and whether the goal is met
abbrev pub seen : Debugged → Outcome
seen d = outcome_of (hit_at_pc d) (is_met d.goal d.start d.table d.hart.pc d.calls.depth)

-- ---- the check at the entry

abbrev pub entry_tick : Debugged → Tick
entry_tick d = record { printed = None; outcome = outcome_of (hit_at_pc d) false }

abbrev pub entry_checked : Debugged → Debugged
entry_checked d = with_check (record d { check_due = false })

-- ---- after a move

-- An instruction, which was at the pc of the machine before, has retired: its marks, one more that has retired, its move
-- among those recorded, and the breakpoints at the new pc.
abbrev pub gone_on : Option Instr → Debugged → Debugged → Debugged
gone_on instr before d = with_check (record d {
  calls = noted_if d.calls instr before.hart.pc;
  retired = d.retired + 1;
  past = recorded before.hart.pc (course_of before);
})

-- whether the goal is met after it
abbrev pub meets_goal : Option Instr → ℕ → Debugged → Bool
meets_goal instr pc d = is_met d.goal d.start d.table d.hart.pc (noted_if d.calls instr pc).depth

-- the outcome where the instruction neither trapped nor ended the program nor was EBREAK
abbrev pub went_on : Option Instr → ℕ → Debugged → Outcome
went_on instr pc d = outcome_of (hit_at_pc d) (meets_goal instr pc d)

-- nothing retired, and no breakpoint was looked at
abbrev pub stayed : Debugged → Debugged
stayed d = record d { lists = record d.lists { ids = []; logs = [] } }

-- what a tick answers, and leaves, of a machine whose hart and memory have moved
abbrev pub tick_of : Stepped → Option Instr → ℕ → Debugged → Tick
tick_of stepped.Retired instr pc d = record { printed = None; outcome = went_on instr pc d }
tick_of (stepped.Printed number) instr pc d = record { printed = Some number; outcome = went_on instr pc d }
tick_of stepped.Break instr pc d = record { printed = None; outcome = Stopped why.Ebreak }
tick_of (stepped.Exit code) instr pc d = record { printed = None; outcome = Ended code }
tick_of (stepped.Trap cause) instr pc d = record { printed = None; outcome = Stopped (why.Exception cause) }

abbrev pub settled : Stepped → Option Instr → Debugged → Debugged → Debugged
settled stepped.Retired instr before d = gone_on instr before d
settled (stepped.Printed number) instr before d = gone_on instr before d
settled stepped.Break instr before d = gone_on instr before d
settled (stepped.Exit code) instr before d = stayed d
settled (stepped.Trap cause) instr before d = stayed d

-- ---- a move is undone

-- the machine before the newest of the recorded moves, or as it is where none is recorded; its breakpoints, their hits
-- and its run stay
abbrev pub undone_by : List Position → Debugged → Debugged
undone_by [] d = d
undone_by (before ∷ past) d = record d {
  hart = before.hart;
  memory = before.memory;
  calls = before.calls;
  retired = d.retired - 1;
  past = past;
}

abbrev pub undone : Debugged → Debugged
undone d = undone_by d.past d

-- a run back continues, unless nothing is recorded any more
abbrev pub unless_start : List Position → Outcome
unless_start [] = Stopped why.Start
unless_start (before ∷ past) = Went

-- what it comes to, by the machine that is left: a run back ends where a breakpoint stands, or where nothing is recorded
-- any more, and a step back ends with one move
abbrev pub back_outcome : Goal → Debugged → Outcome
back_outcome goal.ReverseGo d =
    outcome_or (standing_in d.hart.pc d.hart d.memory d.lists) (unless_start d.past)
back_outcome other d = Stopped why.Goal

-- which breakpoints are named: those that stand at pc, where a run back ends; no hit counts, and no logpoint has
-- something to say
abbrev pub looked_at : Goal → Debugged → Debugged
looked_at goal.ReverseGo d = record d { lists = looked d.hart.pc d.hart d.memory d.lists }
looked_at other d = stayed d

-- what a tick that goes back answers, and leaves
abbrev pub back_tick : Debugged → Tick
back_tick d = record { printed = None; outcome = back_outcome d.goal (undone d) }

abbrev pub gone_back : Debugged → Debugged
gone_back d = looked_at d.goal (undone d)

-- ---- the tick

-- a machine with its hart and memory as another has them
abbrev pub moved_as : Debugged → Debugged → Debugged
moved_as before after = record before { hart = after.hart; memory = after.memory }

-- it answers this, and leaves this
abbrev pub Comes : Tick → Debugged → Result Tick AllocError → Debugged → Type 0
Comes tick left answer after = (answer ≡ Ok tick) × (after ≡ left)

-- what a move comes to
abbrev pub Settles : Debugged → Option Instr → Stepped → Result Tick AllocError → Debugged → Type 0
Settles before instr stepped answer after =
    Comes (tick_of stepped instr before.hart.pc (moved_as before after)) (settled stepped instr before (moved_as before after)) answer after

-- the hart moves
pub record Moves (before : Debugged) (answer : Result Tick AllocError) (after : Debugged) : Type 0 where
  pub instr : Option Instr
  pub stepped : Stepped
  pub fetched : IsFetched (machine_of before.hart before.memory) instr
  pub moved : IsMove (machine_of before.hart before.memory)
      (record { answer = Ok stepped; machine = machine_of after.hart after.memory })
  pub settles : Settles before instr stepped answer after

-- one tick: the check that is due at the entry; or, where the run goes back, a move that is undone; or a move
abbrev pub IsTick : Debugged → Result Tick AllocError → Debugged → Type 0
IsTick before answer after =
    MatchBool before.check_due (Comes (entry_tick before) (entry_checked before) answer after)
    (MatchBool (turns_back before.goal) (Comes (back_tick before) (gone_back before) answer after)
    (Moves before answer after))
