-- `attach`: the editor joins the program that is debugged (DAP specification, `AttachRequest`, `InitializedEvent`).
--
-- The program stays as it is, and is not this editor's to end. The answer is followed by the event that asks for the
-- editor's settings; when it has said all, it is told how the program runs.
use Rattle.std.specs.Prelude.{false, [], ◌∷◌}
use Rattle.replies.specs.declared.event.Event.TheVariants as event
use Rattle.replies.specs.declared.response.ResponseBody.TheVariants as body
use Rattle.handlers.specs.declared.phase.Phase.TheVariants.{Configuring}
use Rattle.handlers.specs.declared.terms.Terms.{Terms}
use Rattle.handlers.specs.declared.demand.Demand.{Demand}
use Rattle.handlers.specs.declared.phase.Phases.TheVariants.{Initialized}
use Rattle.handlers.specs.Demands.{asks_alive, taken_in}
use Rattle.handlers.specs.Given.{Answering, Given}
use Rattle.handlers.specs.Successes.{agreeing}

-- in which phases it is taken, and what it asks of the program
abbrev pub demand : Demand
demand = taken_in Initialized asks_alive

-- the answer, and what it changes
abbrev pub success : Given → Terms → Answering
success given terms = record (agreeing given (record terms { phase = Configuring; launched = false }) body.Empty) {
  events = event.Initialized ∷ [];
}
