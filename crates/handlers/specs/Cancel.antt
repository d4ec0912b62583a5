-- `cancel`: an earlier request is not to be answered as it stands (DAP specification, `CancelRequest`). It acts when it
-- comes; this is its answer.
use Rattle.replies.specs.declared.response.ResponseBody.TheVariants as body
use Rattle.handlers.specs.declared.terms.Terms.{Terms}
use Rattle.handlers.specs.declared.demand.Demand.{Demand}
use Rattle.handlers.specs.Demands.{asks_nothing}
use Rattle.handlers.specs.Given.{Answering, Given}
use Rattle.handlers.specs.Successes.{agreeing}

-- in which phases it is taken, and what it asks of the program
abbrev pub demand : Demand
demand = asks_nothing

-- the answer, and what it changes
abbrev pub success : Given → Terms → Answering
success given terms = agreeing given terms body.Empty
