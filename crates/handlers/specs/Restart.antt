-- `restart`: the program is loaded anew and runs; its breakpoints stay, and none was hit yet (DAP specification,
-- `RestartRequest`).
use Rattle.debuggee.specs.Programs.{first_run, restarted}
use Rattle.replies.specs.declared.response.ResponseBody.TheVariants as body
use Rattle.handlers.specs.declared.terms.Terms.{Terms}
use Rattle.handlers.specs.declared.demand.Demand.{Demand}
use Rattle.handlers.specs.declared.phase.Phases.TheVariants.{Active}
use Rattle.handlers.specs.Demands.{asks_alive, taken_in}
use Rattle.handlers.specs.Given.{Answering, Given}
use Rattle.handlers.specs.Successes.{resuming}

-- in which phases it is taken, and what it asks of the program
abbrev pub demand : Demand
demand = taken_in Active asks_alive

-- the answer, and what it changes
abbrev pub success : Given → Terms → Answering
success given terms = resuming given terms (λ p. first_run (restarted p)) body.Empty
