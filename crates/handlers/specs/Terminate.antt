-- `terminate`: the program ends, and the editor is told so after the answer (DAP specification, `TerminateRequest`).
use Rattle.std.specs.Prelude.{None, [], ◌∷◌}
use Rattle.debuggee.specs.Programs.{ended}
use Rattle.replies.specs.declared.event.Event.TheVariants as event
use Rattle.replies.specs.declared.response.ResponseBody.TheVariants as body
use Rattle.handlers.specs.declared.terms.Terms.{Terms}
use Rattle.handlers.specs.declared.demand.Demand.{Demand}
use Rattle.handlers.specs.declared.phase.Phases.TheVariants.{Debugging}
use Rattle.handlers.specs.Demands.{asks_alive, taken_in}
use Rattle.handlers.specs.Given.{Answering, Given}
use Rattle.handlers.specs.Successes.{changing}

-- in which phases it is taken, and what it asks of the program
abbrev pub demand : Demand
demand = taken_in Debugging asks_alive

-- the answer, and what it changes
abbrev pub success : Given → Terms → Answering
success given terms = record (changing given terms (ended None) body.Empty) { events = event.Terminated ∷ [] }
