-- `threads`: which threads there are (DAP specification, `ThreadsRequest`).
use Rattle.replies.specs.declared.response.ResponseBody.TheVariants as body
use Rattle.handlers.specs.declared.terms.Terms.{Terms}
use Rattle.handlers.specs.declared.demand.Demand.{Demand}
use Rattle.handlers.specs.declared.phase.Phases.TheVariants.{Listening}
use Rattle.handlers.specs.Demands.{asks_nothing, taken_in}
use Rattle.handlers.specs.Given.{Answering, Given}
use Rattle.handlers.specs.Successes.{agreeing}

-- in which phases it is taken, and what it asks of the program
abbrev pub demand : Demand
demand = taken_in Listening asks_nothing

-- the answer, and what it changes
abbrev pub success : Given → Terms → Answering
success given terms = agreeing given terms body.Threads
