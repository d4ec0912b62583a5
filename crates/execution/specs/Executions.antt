-- The execution of a program without a debugger.
--
-- A machine runs tick by tick, for as long as each tick continues, and for no more ticks than are allowed. What it
-- prints is a line for each number that an instruction prints: the number in decimal, with a `-` where it is negative,
-- and a line feed. These lines are written, in the order in which they were printed; what logpoints would say is not.
--
-- It ends with the first tick that ends the program or stops the machine. In a program that was just loaded, without
-- breakpoints and without a goal, that is the first instruction that traps, the first call that ends the program, or
-- the first EBREAK, and each instruction before it has retired.
--
-- Where the lines are more bytes than are allowed, it ends too, and as many of them are written as are allowed, the first ones.
use Rattle.std.specs.Prelude.{◌≡◌, ℕ, ℤ, zero, suc, ◌+◌, ◌<◌, ◌≤◌, ◌⊎◌, List, [], ◌++◌, length, take, codes, Option, Some, None, Ok}
use Rattle.std.specs.Fmt.{signed_decimal}
use Rattle.std.specs.Io.KnownBytes.{Appends}
use Rattle.stepping.specs.Ticks.{Debugged, IsTick}
use Rattle.stepping.specs.declared.tick.Outcome.{Outcome}
use Rattle.stepping.specs.declared.tick.Outcome.TheVariants as outcome
use Rattle.execution.specs.declared.end.ExecutionEnd.{ExecutionEnd}
use Rattle.execution.specs.declared.end.ExecutionEnd.TheVariants.{Ended, Stopped, Limit, OutputLimit}
use Rattle.execution.specs.declared.end.ExecutionFault.{ExecutionFault}
use Rattle.execution.specs.declared.executing.Limits.{Limits}
use Rattle.execution.specs.declared.end.ExecutionFault.TheVariants.{Write, NoMemory}

-- the line of a number that was printed, if one was
abbrev pub line_of : Option ℤ → List ℕ
line_of None = []
line_of (Some number) = signed_decimal number ++ codes "\n"

-- one tick with this outcome, and the line that it printed
abbrev pub Does : Outcome → Debugged → List ℕ → Debugged → Type 0
Does out before line after = (number : Option ℤ)
    × IsTick before (Ok (record { printed = number; outcome = out })) after × (line ≡ line_of number)

-- This many ticks that all continued, and the lines that they printed.
abbrev pub Goes : ℕ → Debugged → List ℕ → Debugged → Type 0
Goes zero start lines after = (lines ≡ []) × (after ≡ start)
Goes (suc ticks) start lines after = (before : Debugged) × (earlier : List ℕ) × (line : List ℕ)
    × Goes ticks start earlier before × Does outcome.Went before line after × (lines ≡ earlier ++ line)

-- This many ticks that continued, and one more with this outcome.
pub record Meets (out : Outcome) (ticks : ℕ) (start : Debugged) (lines : List ℕ) (after : Debugged) : Type 0 where
  pub before : Debugged
  pub earlier : List ℕ
  pub line : List ℕ
  pub goes : Goes ticks start earlier before
  pub last : Does out before line after
  pub all : lines ≡ earlier ++ line

-- An execution ended so, before this many ticks were made.
abbrev pub EndsBefore : ℕ → ExecutionEnd → Debugged → List ℕ → Debugged → Type 0
EndsBefore most (Ended code) start lines after = (ticks : ℕ) × (ticks < most) × Meets (outcome.Ended code) ticks start lines after
EndsBefore most (Stopped reason) start lines after = (ticks : ℕ) × (ticks < most) × Meets (outcome.Stopped reason) ticks start lines after
EndsBefore most Limit start lines after = ⊥
EndsBefore most OutputLimit start lines after = ⊥

-- some ticks of an execution that may make at most this many: all of them continued, or the last one ended it
abbrev pub Made : ℕ → Debugged → List ℕ → Debugged → Type 0
Made limit start lines after = ((ticks : ℕ) × (ticks ≤ limit) × Goes ticks start lines after)
    ⊎ ((end : ExecutionEnd) × EndsBefore limit end start lines after)

-- How an execution ends that may make this many ticks: where too much was printed, after some of them.
abbrev pub Ends : ℕ → ExecutionEnd → Debugged → List ℕ → Debugged → Type 0
Ends limit (Ended code) start lines after = EndsBefore limit (Ended code) start lines after
Ends limit (Stopped reason) start lines after = EndsBefore limit (Stopped reason) start lines after
Ends limit Limit start lines after = Goes limit start lines after
Ends limit OutputLimit start lines after = Made limit start lines after

-- all lines were written, which are no more bytes than are allowed; or they are more, and the first were written
abbrev pub AllWritten : ℕ → List ℕ → Option (List ℕ) → Option (List ℕ) → Type 0
AllWritten bytes lines before now = (length lines ≤ bytes) × Appends before now lines

abbrev pub FirstWritten : ℕ → List ℕ → Option (List ℕ) → Option (List ℕ) → Type 0
FirstWritten bytes lines before now = (bytes < length lines) × Appends before now (take bytes lines)

-- what was written of the lines of an execution that ended so, where this many bytes are allowed
abbrev pub IsWritten : ℕ → ExecutionEnd → List ℕ → Option (List ℕ) → Option (List ℕ) → Type 0
IsWritten bytes (Ended code) lines before now = AllWritten bytes lines before now
IsWritten bytes (Stopped reason) lines before now = AllWritten bytes lines before now
IsWritten bytes Limit lines before now = AllWritten bytes lines before now
IsWritten bytes OutputLimit lines before now = FirstWritten bytes lines before now

-- An execution ended so, and its lines were written.
pub record Executes (limits : Limits) (end : ExecutionEnd) (start after : Debugged) (before now : Option (List ℕ)) : Type 0 where
  pub lines : List ℕ
  pub ends : Ends limits.instructions end start lines after
  pub written : IsWritten limits.bytes end lines before now

-- Some of its ticks were made, and of their lines the first bytes were written, and not all.
pub record IsUnwritten (limit : ℕ) (start after : Debugged) (before now : Option (List ℕ)) : Type 0 where
  pub lines : List ℕ
  pub made : Made limit start lines after
  pub count : ℕ
  pub short : count < length lines
  pub written : Appends before now (take count lines)

-- The writer failed: the lines of some ticks were written, and those of the next ones, at most 100,000, were not all.
pub record FailsToWrite (limit : ℕ) (start after : Debugged) (before now : Option (List ℕ)) : Type 0 where
  pub ticks : ℕ
  pub lines : List ℕ
  pub middle : Debugged
  pub goes : Goes ticks start lines middle
  pub between : Option (List ℕ)
  pub written : Appends before between lines
  pub next : ℕ
  pub few : next ≤ 100000
  pub within : ticks + next ≤ limit
  pub unwritten : IsUnwritten next middle after between now

-- No memory was left: fewer ticks were made than are allowed, all of them continued, and all of their lines were written.
pub record LacksMemory (limit : ℕ) (start after : Debugged) (before now : Option (List ℕ)) : Type 0 where
  pub ticks : ℕ
  pub below : ticks < limit
  pub lines : List ℕ
  pub goes : Goes ticks start lines after
  pub written : Appends before now lines

-- what was made and written where it is given up
abbrev pub IsGivenUp : ℕ → ExecutionFault → Debugged → Debugged → Option (List ℕ) → Option (List ℕ) → Type 0
IsGivenUp limit Write start after before now = FailsToWrite limit start after before now
IsGivenUp limit NoMemory start after before now = LacksMemory limit start after before now
