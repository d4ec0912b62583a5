-- Where a run stops.
--
-- Let a debugged program move on, whatever a debugger wants of it. In each move one instruction retires (RISC-V
-- Unprivileged ISA 20191213, chapter 2), the call stack takes its marks (section 2.5), and each breakpoint at the new
-- pc is looked at, which counts its hits (Debug Adapter Protocol, `hitCondition`). So there is a first move, a second
-- one, and so on for as long as instructions retire. An instruction that traps, or that ends the program, does not
-- retire, and the hart stays where it was: the moves end before it.
--
-- A run stops at the least n >= 1 at which a reason applies, and for the first of these reasons:
--
--   1. the n-th instruction traps, with its cause;     4. after it a breakpoint of a source line stops,
--   2. it ends the program, with its code;             5. or one of an instruction,
--   3. it is EBREAK, which retires;                    6. or one of a function,
--                                                      7. or the goal of the run is met.
--
-- A first run, of a program that was just loaded, may stop at 0, before the first move: the breakpoints at the entry
-- are looked at, and one of a source line, of an instruction or of a function is the only reason there. A logpoint
-- counts its hits as any breakpoint does, and is no reason to stop.
--
-- Where a run that goes back stops is said in `StoppingBack`.
--
-- Each move meets what the moves before it left: registers and memory, the breakpoints and their hits. Where something
-- else changes one of these between two moves, the run continues from the machine as it is then, and its moves are
-- counted anew from there, from 1.
--
-- A machine is a `Debugged`: hart and memory, the calls, the breakpoints, the goal of the run and the depth at its
-- start, and whether the check at the entry is due, as it is where a first run begins.
use Rattle.std.specs.Prelude.{◌≡◌, ℕ, ℤ, zero, suc, ◌+◌, ◌<◌, ◌≤◌, Bool, true, false, IsTrue, if◌then◌else◌, List, []}
use Rattle.std.specs.Prelude.{◌∷◌, map, replicate, Some, None, Ok, refl}
use Rattle.std.specs.List.{list_any}
use Rattle.breakpoints.specs.Stops.{checked, Placed, stops}
use Rattle.rv32i.specs.Machine.{IsDecodedAtPc, IsMove, Machine, machine_of}
use Rattle.rv32i.specs.declared.instr.Instr.{Instr}
use Rattle.rv32i.specs.declared.stepped.Cause.{Cause}
use Rattle.rv32i.specs.declared.stepped.Stepped.{Stepped}
use Rattle.rv32i.specs.declared.stepped.Stepped.TheVariants.{Retired, Printed, Break, Exit, Trap}
use Rattle.course.specs.Calls.{noted, nothing_kept}
use Rattle.course.specs.Positions.{recorded}
use Rattle.stepping.specs.Goals.{is_met}
use Rattle.stepping.specs.Ticks.{Debugged, course_of}
use Rattle.stepping.specs.declared.goal.Goal.TheVariants.{Go}
use Rattle.stepping.specs.declared.tick.Outcome.{Outcome}
use Rattle.stepping.specs.declared.tick.Outcome.TheVariants.{Went, Stopped, Ended}
use Rattle.stepping.specs.declared.tick.Reason.TheVariants.{Exception, Ebreak, Source, Instruction, Function, Goal, Start}

-- ---- the moves, whatever would stop

-- whether an instruction has retired, by what the hart answers to it
abbrev pub has_retired : Stepped → Bool
has_retired Retired = true
has_retired (Printed number) = true
has_retired Break = true
has_retired (Exit code) = false
has_retired (Trap cause) = false

-- One move: the instruction at pc retires. The calls take its marks, each breakpoint at the new pc is looked at, one
-- more instruction has retired, the move is recorded, and all else is as it was.
pub record Advances (before after : Debugged) : Type 0 where
  pub instr : Instr
  pub answer : Stepped
  pub decoded : IsDecodedAtPc (machine_of before.hart before.memory) (Some instr)
  pub moved : IsMove (machine_of before.hart before.memory)
      (record { answer = Ok answer; machine = machine_of after.hart after.memory })
  pub retires : IsTrue (has_retired answer)
  pub leaves : after ≡ record before {
    hart = after.hart;
    memory = after.memory;
    calls = noted before.calls instr before.hart.pc;
    lists = checked after.hart.pc after.hart after.memory before.lists;
    retired = before.retired + 1;
    past = recorded before.hart.pc (course_of before);
  }

-- the machine before its first move: where a check is due, it has looked at the breakpoints at the entry
abbrev pub entered : Debugged → Debugged
entered start = if start.check_due
    then record start {
      lists = checked start.hart.pc start.hart start.memory start.lists;
      check_due = false;
    }
    else start

-- the machine after `n` moves, if there are that many
abbrev pub After : ℕ → Debugged → Debugged → Type 0
After zero start after = after ≡ entered start
After (suc n) start after = (before : Debugged) × (After n start before × Advances before after)

-- ---- the reasons, each by the machine before the instruction

-- the hart answers this to the instruction at pc
abbrev pub Answers : Debugged → Stepped → Type 0
Answers before answer = (machine : Machine) ×
    IsMove (machine_of before.hart before.memory) (record { answer = Ok answer; machine = machine })

-- it traps, it ends the program, it is EBREAK
abbrev pub Traps : Cause → Debugged → Type 0
Traps cause before = Answers before (Trap cause)

abbrev pub Exits : ℤ → Debugged → Type 0
Exits code before = Answers before (Exit code)

abbrev pub Breaks : Debugged → Type 0
Breaks before = Answers before Break

-- One of these breakpoints, with its hits from before, stops at the pc where the machine is now.
abbrev pub OneStops : List Placed → Debugged → Type 0
OneStops breakpoints now = IsTrue (list_any (stops now.hart.pc now.hart now.memory) breakpoints)

-- after it a breakpoint of a source line stops, or one of an instruction, or one of a function
abbrev pub MeetsSource : Debugged → Type 0
MeetsSource before = (after : Debugged) × (Advances before after × OneStops before.lists.source after)

abbrev pub MeetsInstruction : Debugged → Type 0
MeetsInstruction before = (after : Debugged) × (Advances before after × OneStops before.lists.instructions after)

abbrev pub MeetsFunction : Debugged → Type 0
MeetsFunction before = (after : Debugged) × (Advances before after × OneStops before.lists.functions after)

-- after it the goal of the run is met
abbrev pub MeetsGoal : Debugged → Type 0
MeetsGoal before = (after : Debugged) × (Advances before after
    × IsTrue (is_met after.goal after.start after.table after.hart.pc after.calls.depth))

-- ---- the least number

-- the reason applies to the instruction at pc
abbrev pub Applies : Outcome → Debugged → Type 0
Applies (Stopped (Exception cause)) before = Traps cause before
Applies (Ended code) before = Exits code before
Applies (Stopped Ebreak) before = Breaks before
Applies (Stopped Source) before = MeetsSource before
Applies (Stopped Instruction) before = MeetsInstruction before
Applies (Stopped Function) before = MeetsFunction before
Applies (Stopped Goal) before = MeetsGoal before
Applies (Stopped Start) before = ⊥
Applies Went before = ⊥

-- the reason applies at the entry
abbrev pub AppliesAtEntry : Outcome → Debugged → Type 0
AppliesAtEntry (Stopped Source) start = OneStops start.lists.source start
AppliesAtEntry (Stopped Instruction) start = OneStops start.lists.instructions start
AppliesAtEntry (Stopped Function) start = OneStops start.lists.functions start
AppliesAtEntry outcome start = ⊥

-- the reason applies at a number: at 0 where a check is due at the entry, and from 1 on at the instruction of this
-- number, which the machine meets after one move less
abbrev pub AppliesAt : ℕ → Outcome → Debugged → Type 0
AppliesAt zero outcome start = IsTrue start.check_due × AppliesAtEntry outcome start
AppliesAt (suc n) outcome start = (before : Debugged) × (After n start before × Applies outcome before)

-- A first run of a program that begins at 65536, where one breakpoint of an instruction is set, which stops from the
-- given hit on. The check at the entry counts a hit. So one that stops from its first hit on stops the run at 0.
abbrev pub first_run : ℕ → Debugged
first_run hit = record {
  hart = record { pc = 65536; x = replicate 32 0; zero = refl };
  memory = [];
  size = 4096;
  calls = nothing_kept;
  lists = record {
    source = [];
    instructions = record { id = 1; address = 65536; condition = None; hit = hit; log = None; hits = 0 } ∷ [];
    functions = [];
    ids = [];
    logs = [];
  };
  retired = 0;
  past = [];
  goal = Go;
  start = 0;
  check_due = true;
  table = record { rows = []; labels = []; end = 65536 };
}

stops_at_the_entry : AppliesAt 0 (Stopped Instruction) (first_run 1)
stops_at_the_entry = (refl, refl)

counts_its_hit : map (λ b. b.hits) (entered (first_run 2)).lists.instructions ≡ 1 ∷ []
counts_its_hit = refl

goes_on_at_its_first : list_any (stops 65536 (first_run 2).hart []) (first_run 2).lists.instructions ≡ false
goes_on_at_its_first = refl

-- the places of the reasons in their order
abbrev pub place : Outcome → ℕ
place (Stopped (Exception cause)) = 1
place (Ended code) = 2
place (Stopped Ebreak) = 3
place (Stopped Source) = 4
place (Stopped Instruction) = 5
place (Stopped Function) = 6
place (Stopped Goal) = 7
place (Stopped Start) = 8
place Went = 9

-- no reason applies at a lower number
abbrev pub NoneBelow : ℕ → Debugged → Type 0
NoneBelow n start = (lower : ℕ) (outcome : Outcome) → lower < n → AppliesAt lower outcome start → ⊥

-- A run from here stops at this number, for this reason.
pub record StopsAt (n : ℕ) (outcome : Outcome) (start : Debugged) : Type 0 where
  pub applies : AppliesAt n outcome start
  pub first : (other : Outcome) → AppliesAt n other start → place outcome ≤ place other
  pub least : NoneBelow n start

-- ---- the machine that a run leaves

-- the one after `n` moves, except that no breakpoint is named as one that stopped, and no logpoint as one that has
-- something to say
abbrev pub Unmoved : ℕ → Debugged → Debugged → Type 0
Unmoved n start after = (before : Debugged)
    × (After n start before × (after ≡ record before { lists = record before.lists { ids = []; logs = [] } }))

-- the one after as many moves as the number says; where the last instruction did not retire, after one less
abbrev pub Leaves : ℕ → Outcome → Debugged → Debugged → Type 0
Leaves (suc n) (Stopped (Exception cause)) start after = Unmoved n start after
Leaves (suc n) (Ended code) start after = Unmoved n start after
Leaves n outcome start after = After n start after
