-- What lets the program go back (DAP specification, `StepBackRequest`, `ReverseContinueRequest`,
-- `Capabilities.supportsStepBack`): `stepBack` by one instruction, at every granularity, and `reverseContinue` until a
-- breakpoint stands where it is, or no move is recorded any more. A move that is undone leaves the machine as it was
-- before it; the last moves are recorded, and where none is, there is nothing to undo.
use Rattle.std.specs.Prelude.{ℤ, List, [], ◌∷◌, Option, Some, None}
use Rattle.course.specs.Positions.{Position}
use Rattle.debuggee.specs.Programs.{Program, resumed}
use Rattle.protocol.specs.declared.refusal.Refusal.TheVariants.{NoHistory}
use Rattle.stepping.specs.declared.goal.Goal.{Goal}
use Rattle.replies.specs.declared.response.ResponseBody.TheVariants as body
use Rattle.handlers.specs.declared.terms.Terms.{Terms}
use Rattle.handlers.specs.declared.demand.Demand.{Demand}
use Rattle.handlers.specs.declared.phase.Phases.TheVariants.{Active}
use Rattle.handlers.specs.Demands.{asks_still, taken_in}
use Rattle.handlers.specs.Given.{Answering, Given}
use Rattle.handlers.specs.Successes.{refusing, resuming}

-- in which phases it is taken, and what it asks of the program
abbrev pub demand : ℤ → Demand
demand thread = taken_in Active (asks_still thread)

-- where the program was before the moves that are recorded, the newest first
abbrev pub past_of : Option Program → List Position
past_of None = []
past_of (Some p) = p.machine.past

-- the answer, by these
abbrev pub success_by : List Position → Given → Terms → Goal → Answering
success_by [] given terms goal = refusing given terms NoHistory None
success_by (before ∷ past) given terms goal = resuming given terms (resumed goal) body.Empty

abbrev pub success : Given → Terms → Goal → Answering
success given terms goal = success_by (past_of given.debuggee.program) given terms goal
