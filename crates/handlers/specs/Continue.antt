-- `continue`: the program continues, without a goal (DAP specification, `ContinueRequest`).
use Rattle.std.specs.Prelude.{ℤ}
use Rattle.debuggee.specs.Programs.{resumed}
use Rattle.stepping.specs.declared.goal.Goal.TheVariants.{Go}
use Rattle.replies.specs.declared.response.ResponseBody.TheVariants as body
use Rattle.handlers.specs.declared.terms.Terms.{Terms}
use Rattle.handlers.specs.declared.demand.Demand.{Demand}
use Rattle.handlers.specs.declared.phase.Phases.TheVariants.{Active}
use Rattle.handlers.specs.Demands.{asks_still, taken_in}
use Rattle.handlers.specs.Given.{Answering, Given}
use Rattle.handlers.specs.Successes.{resuming}

-- in which phases it is taken, and what it asks of the program
abbrev pub demand : ℤ → Demand
demand thread = taken_in Active (asks_still thread)

-- the answer, and what it changes
abbrev pub success : Given → Terms → Answering
success given terms = resuming given terms (resumed Go) body.Continue
