-- What holds of every execution: each of these statements is the contract of a function of the module `laws`.
use Rattle.std.specs.Prelude.{◌≡◌, ℕ, zero, suc, ◌<◌, ◌≤◌, ◌⊎◌, false, List}
use Rattle.stepping.specs.Goals.{turns_back}
use Rattle.stepping.specs.RunLaws.{Says, number_after}
use Rattle.stepping.specs.Ticks.{Debugged}
use Rattle.stepping.specs.declared.tick.Outcome.TheVariants as outcome
use Rattle.execution.specs.Executions.{Ends}
use Rattle.execution.specs.declared.end.ExecutionEnd.{ExecutionEnd}
use Rattle.execution.specs.declared.end.ExecutionEnd.TheVariants.{Ended, Stopped, Limit, OutputLimit}

-- no reason to stop had applied until this many ticks were made
abbrev pub WentOn : ℕ → Debugged → Debugged → Type 0
WentOn zero start after = after ≡ start
WentOn (suc ticks) start after = Says (number_after ticks start) outcome.Went start after

-- where an execution that ended so stopped by itself, before this many ticks were made, and what it left
abbrev pub StopsBefore : ℕ → ExecutionEnd → Debugged → Debugged → Type 0
StopsBefore limit (Ended code) start after = (ticks : ℕ) × (ticks < limit) × Says (number_after ticks start) (outcome.Ended code) start after
StopsBefore limit (Stopped reason) start after = (ticks : ℕ) × (ticks < limit) × Says (number_after ticks start) (outcome.Stopped reason) start after
StopsBefore limit Limit start after = ⊥
StopsBefore limit OutputLimit start after = ⊥

-- where an execution that ended so stopped; where a limit ended it, no reason had applied until then, or with too much printed the first did
abbrev pub StopsThere : ℕ → ExecutionEnd → Debugged → Debugged → Type 0
StopsThere limit (Ended code) start after = StopsBefore limit (Ended code) start after
StopsThere limit (Stopped reason) start after = StopsBefore limit (Stopped reason) start after
StopsThere limit Limit start after = WentOn limit start after
StopsThere limit OutputLimit start after = ((ticks : ℕ) × (ticks ≤ limit) × WentOn ticks start after)
    ⊎ ((end : ExecutionEnd) × StopsBefore limit end start after)

-- An execution ends where a run stops, unless the machine is to go back.
abbrev pub EndsWhereARunStops : Type 0
EndsWhereARunStops = (limit : ℕ) (end : ExecutionEnd) (start after : Debugged) (lines : List ℕ) → turns_back start.goal ≡ false →
    Ends limit end start lines after → StopsThere limit end start after
