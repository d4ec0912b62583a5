-- `setExceptionBreakpoints`: exceptions always stop a program, so there is nothing to set (DAP specification,
-- `SetExceptionBreakpointsRequest`).
use Rattle.replies.specs.declared.response.ResponseBody.TheVariants as body
use Rattle.handlers.specs.declared.terms.Terms.{Terms}
use Rattle.handlers.specs.declared.demand.Demand.{Demand}
use Rattle.handlers.specs.declared.phase.Phases.TheVariants.{Debugging}
use Rattle.handlers.specs.Demands.{asks_program, taken_in}
use Rattle.handlers.specs.Given.{Answering, Given}
use Rattle.handlers.specs.Successes.{agreeing}

-- in which phases it is taken, and what it asks of the program
abbrev pub demand : Demand
demand = taken_in Debugging asks_program

-- the answer, and what it changes
abbrev pub success : Given → Terms → Answering
success given terms = agreeing given terms body.Empty
