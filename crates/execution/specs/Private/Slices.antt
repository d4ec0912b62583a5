-- How the code goes, in slices, and what it writes of each.
use Rattle.std.specs.Prelude.{◌≡◌, ℕ, ◌<◌, ◌≤◌, List, ◌++◌, length, Option, Some, None}
use Rattle.stepping.specs.Ticks.{Debugged}
use Rattle.stepping.specs.declared.tick.Outcome.{Outcome}
use Rattle.stepping.specs.declared.tick.Outcome.TheVariants as outcome
use Rattle.execution.specs.Executions.{AllWritten, EndsBefore, Goes, IsUnwritten, IsWritten, LacksMemory, Made}
use Rattle.execution.specs.declared.end.ExecutionEnd.{ExecutionEnd}
use Rattle.execution.specs.declared.end.ExecutionEnd.TheVariants.{Ended, Stopped, Limit, OutputLimit}
use Rattle.execution.specs.declared.end.ExecutionFault.{ExecutionFault}
use Rattle.execution.specs.declared.end.ExecutionFault.TheVariants.{Write, NoMemory}
use Rattle.execution.specs.declared.executing.Part.{Part}

-- how an execution ends by the outcome of a tick, if it does
abbrev pub end_by : Outcome → Option ExecutionEnd
end_by outcome.Went = None
end_by (outcome.Stopped reason) = Some (Stopped reason)
end_by (outcome.Ended code) = Some (Ended code)

-- A slice of at most this many ticks: one or more that continued, or the end of the execution.
abbrev pub Comes : ℕ → ℕ → Option ExecutionEnd → Debugged → List ℕ → Debugged → Type 0
Comes most made None start lines after = (1 ≤ made) × (made ≤ most) × Goes made start lines after
Comes most made (Some end) start lines after = EndsBefore most end start lines after

-- its lines stand after a text that was there before
pub record IsSlice (most made : ℕ) (end : Option ExecutionEnd) (start after : Debugged) (text text' : List ℕ) : Type 0 where
  pub lines : List ℕ
  pub comes : Comes most made end start lines after
  pub text_is : text' ≡ text ++ lines

-- where no memory was left for one more tick, the lines of those that were made stand there too
pub record BreaksOff (most : ℕ) (start after : Debugged) (text text' : List ℕ) : Type 0 where
  pub ticks : ℕ
  pub below : ticks < most
  pub lines : List ℕ
  pub goes : Goes ticks start lines after
  pub text_is : text' ≡ text ++ lines

-- A slice whose lines were written, as far as there was room: it continued and all were, or the execution ended.
abbrev pub PartComes : ℕ → ℕ → Option ExecutionEnd → Debugged → List ℕ → Debugged → Type 0
PartComes most made None start lines after = Comes most made None start lines after
PartComes most made (Some (Ended code)) start lines after = EndsBefore most (Ended code) start lines after
PartComes most made (Some (Stopped reason)) start lines after = EndsBefore most (Stopped reason) start lines after
PartComes most made (Some Limit) start lines after = ⊥
PartComes most made (Some OutputLimit) start lines after = Made most start lines after

abbrev pub PartWritten : ℕ → Option ExecutionEnd → List ℕ → Option (List ℕ) → Option (List ℕ) → Type 0
PartWritten room None lines before now = AllWritten room lines before now
PartWritten room (Some end) lines before now = IsWritten room end lines before now

pub record Writes (most room : ℕ) (part : Part) (start after : Debugged) (before now : Option (List ℕ)) : Type 0 where
  pub lines : List ℕ
  pub comes : PartComes most part.made part.end start lines after
  pub written : PartWritten room part.end lines before now
  pub bytes : part.end ≡ None → part.bytes ≡ length lines

-- or it is given up
abbrev pub GivesUp : ℕ → ExecutionFault → Debugged → Debugged → Option (List ℕ) → Option (List ℕ) → Type 0
GivesUp most Write start after before now = IsUnwritten most start after before now
GivesUp most NoMemory start after before now = LacksMemory most start after before now
