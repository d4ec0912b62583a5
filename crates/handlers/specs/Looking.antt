-- The answer to a request that looks into the program that is debugged (DAP specification, `StackTraceRequest`,
-- `ScopesRequest`, `VariablesRequest`, `EvaluateRequest`, `DisassembleRequest`, `ReadMemoryRequest`).
--
-- The request is answered by what there is of the program as it stands still, and by the numbers that this stop has.
-- Frames and scopes that are given get the next numbers. Where they would pass the last one, nothing is given.
use Rattle.std.specs.Prelude.{ℤ, if◌then◌else◌, List, Option, Some, None, Result, Ok, Err}
use Rattle.answers.specs.Looking.{Look, look_answer}
use Rattle.debuggee.specs.Programs.{Program}
use Rattle.protocol.specs.declared.command.Command.{Command}
use Rattle.protocol.specs.declared.refusal.Refusal.{Refusal}
use Rattle.protocol.specs.declared.refusal.Refusal.TheVariants.{ReferencesExhausted}
use Rattle.replies.specs.declared.response.ResponseBody.{ResponseBody}
use Rattle.replies.specs.declared.response.ResponseBody.TheVariants as body
use Rattle.handlers.specs.declared.terms.Terms.{Terms}
use Rattle.handlers.specs.declared.demand.Demand.{Demand}
use Rattle.handlers.specs.declared.phase.Phases.TheVariants.{Active}
use Rattle.handlers.specs.Demands.{asks_still, asks_stopped, taken_in}
use Rattle.handlers.specs.Given.{Answering, Given}
use Rattle.handlers.specs.Views.{view_of}
use Rattle.handlers.specs.Successes.{agreeing, refusing}
use Rattle.variables.specs.Laws.Call.{Issue}
use Rattle.variables.specs.Numbers.{has_room}
use Rattle.variables.specs.declared.target.Target.{Target}

-- in which phases it is taken, and what it asks of the program
abbrev pub demand : Demand
demand = taken_in Active asks_stopped

-- what `stackTrace` asks, which names a thread
abbrev pub demand_on : ℤ → Demand
demand_on thread = taken_in Active (asks_still thread)

-- something is shown, and numbers are issued for these targets
abbrev pub issues : Given → Terms → ResponseBody → List Target → Answering
issues given terms body targets = record (agreeing given terms body) { references = Some (Issue targets) }

-- something is shown, unless the numbers are used up
abbrev pub shows : Given → Terms → ResponseBody → List Target → Answering
shows given terms body targets =
    if has_room given.numbers targets then issues given terms body targets
    else refusing given terms ReferencesExhausted None

-- by what is answered
abbrev pub shows_by : Given → Terms → Result ResponseBody Refusal → List Target → Answering
shows_by given terms (Ok body) targets = shows given terms body targets
shows_by given terms (Err refusal) targets = refusing given terms refusal None

-- what is seen of a program
abbrev pub seen_in : Program → Given → Terms → Command → Look
seen_in p given terms command = look_answer command p.machine p.image.lines given.numbers (view_of terms p)

-- the answer, by the program
abbrev pub looks_on : Option Program → Given → Terms → Command → Answering
looks_on None given terms command = agreeing given terms body.Empty
looks_on (Some p) given terms command = let look = seen_in p given terms command in shows_by given terms look.result look.targets

-- the answer, and what it changes
abbrev pub looks : Given → Terms → Command → Answering
looks given terms command = looks_on given.debuggee.program given terms command
