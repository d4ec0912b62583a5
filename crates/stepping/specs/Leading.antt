-- The past that a debugged machine has recorded is a run.
--
-- Each of its positions makes one move to the next, and the newest makes one to where the machine is now. So where it is
-- now is what as many moves as are recorded make of the oldest. After a move is undone it is what one move less makes of
-- that. And where some are undone, as many moves lead to the same position again.
use Rattle.std.specs.Prelude.{◌≡◌, ℕ, zero, suc, ◌≤◌, true, false, IsTrue, List, [], ◌∷◌, length, Some, Result, Ok, ⊤}
use Rattle.std.specs.declared.alloc.AllocError.{AllocError}
use Rattle.rv32i.specs.Machine.{IsDecodedAtPc, IsMove, machine_of}
use Rattle.rv32i.specs.declared.instr.Instr.{Instr}
use Rattle.rv32i.specs.declared.stepped.Stepped.{Stepped}
use Rattle.course.specs.Calls.{noted}
use Rattle.course.specs.Positions.{Course, Position, gone_back}
use Rattle.stepping.specs.Goals.{turns_back}
use Rattle.stepping.specs.Stopping.{has_retired}
use Rattle.stepping.specs.Ticks.{Debugged, IsTick, course_of, position_of}
use Rattle.stepping.specs.declared.tick.Tick.{Tick}

-- one move, at which an instruction retires
pub record MovesTo (before after : Position) : Type 0 where
  pub instr : Instr
  pub answer : Stepped
  pub decoded : IsDecodedAtPc (machine_of before.hart before.memory) (Some instr)
  pub moved : IsMove (machine_of before.hart before.memory)
      (record { answer = Ok answer; machine = machine_of after.hart after.memory })
  pub retires : IsTrue (has_retired answer)
  pub calls : after.calls ≡ noted before.calls instr before.hart.pc

-- each of these positions, the newest first, makes one to the next, and the newest to this one
abbrev pub LeadTo : List Position → Position → Type 0
LeadTo [] now = ⊤
LeadTo (before ∷ past) now = MovesTo before now × LeadTo past before

-- the past leads to where it is now
abbrev pub PastLeads : Course → Type 0
PastLeads c = LeadTo c.past c.now

-- this many moves, one after the other
abbrev pub Makes : ℕ → Position → Position → Type 0
Makes zero start now = now ≡ start
Makes (suc n) start now = (middle : Position) × (Makes n start middle × MovesTo middle now)

-- the oldest of a past, or this where there is none
abbrev pub oldest_of : List Position → Position → Position
oldest_of [] now = now
oldest_of (before ∷ past) now = oldest_of past before

abbrev pub oldest : Course → Position
oldest c = oldest_of c.past c.now

-- this many moves are undone
abbrev pub back : ℕ → Course → Course
back zero c = c
back (suc k) c = gone_back (back k c)

-- ---- the laws

-- After each tick the past leads to where the machine is, if it did before.
abbrev pub TicksLead : Type 0
TicksLead = (before after : Debugged) (answer : Result Tick AllocError) → PastLeads (course_of before) →
    IsTick before answer after → PastLeads (course_of after)

-- Where it is now is what as many moves as are recorded make of the oldest.
abbrev pub MovesFromOldest : Type 0
MovesFromOldest = (c : Course) → PastLeads c → Makes (length c.past) (oldest c) c.now

-- After a tick that goes back it is what one move less makes of the same position, and one less is recorded.
abbrev pub OneLess : Type 0
OneLess = (before after : Debugged) (tick : Tick) (n : ℕ) → PastLeads (course_of before) →
    turns_back before.goal ≡ true → before.check_due ≡ false → length before.past ≡ suc n →
    IsTick before (Ok tick) after →
    Makes n (oldest (course_of before)) (position_of after) × (length after.past ≡ n)

-- As many moves as are undone lead to the same position again.
abbrev pub BackAndForth : Type 0
BackAndForth = (k : ℕ) (c : Course) (after : Position) → PastLeads c → k ≤ length c.past →
    Makes k (back k c).now after → after ≡ c.now
