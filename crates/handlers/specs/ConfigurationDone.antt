-- `configurationDone`: the editor has said all (DAP specification, `ConfigurationDoneRequest`).
--
-- A program that it launched runs then. One that it joined continues as before, and the editor is told how: that it runs,
-- or stands still, and why.
use Rattle.std.specs.Prelude.{if◌then◌else◌, List, [], ◌∷◌, Option, Some, None}
use Rattle.debuggee.specs.Programs.{first_run}
use Rattle.debuggee.specs.declared.run.Run.{Run}
use Rattle.debuggee.specs.declared.run.Run.TheVariants.{Running, Stopped, Ended}
use Rattle.replies.specs.declared.event.Event.{Event}
use Rattle.replies.specs.declared.event.Event.TheVariants.{Continued}
use Rattle.replies.specs.declared.response.ResponseBody.TheVariants as body
use Rattle.handlers.specs.declared.phase.Phase.TheVariants.{Active}
use Rattle.handlers.specs.declared.terms.Terms.{Terms}
use Rattle.handlers.specs.declared.demand.Demand.{Demand}
use Rattle.handlers.specs.declared.phase.Phases.TheVariants.{Configuring}
use Rattle.handlers.specs.Demands.{asks_alive, run_of, taken_in}
use Rattle.handlers.specs.Given.{Answering, Given}
use Rattle.handlers.specs.Successes.{agreeing, changing}
use Rattle.handlers.specs.Telling.{stop_event}

-- in which phases it is taken, and what it asks of the program
abbrev pub demand : Demand
demand = taken_in Configuring asks_alive

-- what is told of a program that was joined
abbrev pub run_events : Option Run → List Event
run_events None = []
run_events (Some Running) = Continued ∷ []
run_events (Some (Stopped why)) = stop_event why [] ∷ []
run_events (Some (Ended code)) = []

-- the answer after `launch`, and after `attach`
abbrev pub begins : Given → Terms → Answering
begins given terms = changing given terms first_run body.Empty

abbrev pub joins : Given → Terms → Answering
joins given terms = record (agreeing given terms body.Empty) { events = run_events (run_of given.debuggee.program) }

-- the answer, and what it changes
abbrev pub success : Given → Terms → Answering
success given terms = let active = record terms { phase = Active } in
    if terms.launched then begins given active else joins given active
