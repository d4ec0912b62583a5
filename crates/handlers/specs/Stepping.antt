-- `next`, `stepIn` and `stepOut`: the program continues, with a goal (DAP specification, `NextRequest`, `StepInRequest`,
-- `StepOutRequest`). A statement is a line.
use Rattle.std.specs.Prelude.{ℤ}
use Rattle.debuggee.specs.Programs.{resumed}
use Rattle.protocol.specs.declared.granularity.Granularity.{Granularity as Asked}
use Rattle.protocol.specs.declared.granularity.Granularity.TheVariants as asked
use Rattle.stepping.specs.declared.goal.Goal.{Goal}
use Rattle.stepping.specs.declared.goal.Granularity.{Granularity}
use Rattle.stepping.specs.declared.goal.Granularity.TheVariants.{Line, Instruction as Single}
use Rattle.replies.specs.declared.response.ResponseBody.TheVariants as body
use Rattle.handlers.specs.declared.terms.Terms.{Terms}
use Rattle.handlers.specs.declared.demand.Demand.{Demand}
use Rattle.handlers.specs.declared.phase.Phases.TheVariants.{Active}
use Rattle.handlers.specs.Demands.{asks_still, taken_in}
use Rattle.handlers.specs.Given.{Answering, Given}
use Rattle.handlers.specs.Successes.{resuming}

-- what a step is
abbrev pub granularity_of : Asked → Granularity
granularity_of asked.Statement = Line
granularity_of asked.Line = Line
granularity_of asked.Instruction = Single

-- in which phases it is taken, and what it asks of the program
abbrev pub demand : ℤ → Demand
demand thread = taken_in Active (asks_still thread)

-- the answer, and what it changes
abbrev pub success : Given → Terms → Goal → Answering
success given terms goal = resuming given terms (resumed goal) body.Empty
