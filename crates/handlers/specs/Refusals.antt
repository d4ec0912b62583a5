-- What is answered to a request (DAP specification, `Request`, `Response`, `ErrorResponse`).
--
-- Each request has one answer. It is refused for the first reason of a list that applies, and then only its answer is
-- sent: a refused request changes nothing. One that no reason applies to succeeds: what it changes stands before its
-- answer, which has the body of that request.
use Rattle.std.specs.Prelude.{ℕ, Bool, true, false, not, ◌&&◌, List, [], ◌∷◌, ◌++◌, Option, Some, None, if◌then◌else◌}
use Rattle.debuggee.specs.declared.run.Run.{Run}
use Rattle.protocol.specs.declared.command.Command.{Command}
use Rattle.protocol.specs.declared.command.Command.TheVariants.{Launch}
use Rattle.protocol.specs.declared.refusal.Refusal.TheVariants.{NoMachine, Ended, NoThread, NotStopped}
use Rattle.handlers.specs.declared.demand.Demand.{Demand}
use Rattle.handlers.specs.Demands.{asks_nothing, goes_on, has_ended, has_none, is_no_thread, run_of}
use Rattle.handlers.specs.Successes.{refusing}
use Rattle.protocol.specs.declared.refusal.Refusal.{Refusal}
use Rattle.protocol.specs.declared.refusal.Refusal.TheVariants.{RepeatedSequence, Cancelled as IsCancelled, WrongPhase}
use Rattle.protocol.specs.declared.refusal.Refusal.TheVariants.{RequestGone}
use Rattle.replies.specs.declared.response.Outcome.{Outcome}
use Rattle.replies.specs.declared.response.Response.{Response}
use Rattle.handlers.specs.declared.phase.Phase.{Phase}
use Rattle.queues.specs.declared.pending.Ask.{Ask}
use Rattle.queues.specs.declared.pending.Ask.TheVariants.{Request, Bad}
use Rattle.queues.specs.declared.pending.Fate.{Fate}
use Rattle.queues.specs.declared.pending.Fate.TheVariants.{Waits, Repeated, Cancelled, NamesNone}
use Rattle.queues.specs.declared.pending.Pending.{Pending}
use Rattle.handlers.specs.Given.{Answering, Lent}
use Rattle.queues.specs.Arrivals.{number_of, name_asked, is_repeat}
use Rattle.handlers.specs.Requests.{demand_of, is_taken_in, success_of}

-- whether a later `cancel` named the request
abbrev pub is_cancelled : Fate → Bool
is_cancelled Waits = false
is_cancelled Repeated = false
is_cancelled Cancelled = true
is_cancelled NamesNone = false

-- whether it is a `cancel` that names no request that waits
abbrev pub names_none : Fate → Bool
names_none Waits = false
names_none Repeated = false
names_none Cancelled = false
names_none NamesNone = true

-- the refusal, where the reason for it applies
abbrev pub where_so : Bool → Refusal → Option Refusal
where_so reason refusal = if reason then Some refusal else None

-- why the request could not be read as one that the adapter has: its name is unknown, or its arguments are bad
abbrev pub misread : Ask → Option Refusal
misread (Request r) = None
misread (Bad seq command refusal) = Some refusal

-- whether the phase does not take it
abbrev pub comes_wrong : Phase → Ask → Bool
comes_wrong phase (Request r) = not (is_taken_in phase r.command)
comes_wrong phase (Bad seq command refusal) = false

-- what it asks of the program that is debugged
abbrev pub demand_by : Ask → Demand
demand_by (Request r) = demand_of r.command
demand_by (Bad seq command refusal) = asks_nothing

-- what the program lacks of that, in order
abbrev pub unmet : Option Run → Demand → List (Option Refusal)
unmet run demand =
    where_so (demand.loaded && has_none run) NoMachine
    ∷ where_so (demand.alive && has_ended run) Ended
    ∷ where_so (is_no_thread demand.thread) NoThread
    ∷ where_so (demand.still && goes_on run) NotStopped
    ∷ []

-- those of the reasons that the request itself gives, in order
abbrev pub as_it_stands : Phase → Ask → List (Option Refusal)
as_it_stands phase ask = misread ask
    ∷ where_so (comes_wrong phase ask) WrongPhase
    ∷ []

-- The reasons, in their order.
abbrev pub refusals : Option Run → Phase → Pending → List (Option Refusal)
refusals run phase p = where_so (is_repeat p.fate) RepeatedSequence
    ∷ where_so (is_cancelled p.fate) IsCancelled
    ∷ (as_it_stands phase p.ask ++ (unmet run (demand_by p.ask)
    ++ where_so (names_none p.fate) RequestGone ∷ []))

-- the first that applies, if one does
abbrev pub first_refusal : List (Option Refusal) → Option Refusal
first_refusal [] = None
first_refusal (None ∷ rest) = first_refusal rest
first_refusal (Some refusal ∷ rest) = Some refusal

-- the answer, by the refusal that applies, if one does
abbrev pub answer_by : Lent → Option Refusal → Ask → Answering
answer_by lent (Some refusal) ask = refusing lent.given lent.terms refusal None
answer_by lent None (Request r) = success_of lent.given lent.terms lent.file r.command
answer_by lent None (Bad seq command refusal) = refusing lent.given lent.terms refusal None

-- what a request is answered, by what is lent to the answer
abbrev pub answer_of : Lent → Pending → Answering
answer_of lent p =
    answer_by lent (first_refusal (refusals (run_of lent.given.debuggee.program) lent.terms.phase p)) p.ask

-- the response that says so: it names the request by its number and its name
abbrev pub response_to : Ask → Outcome → Response
response_to ask outcome = record { request_seq = number_of ask; command = name_asked ask; outcome = outcome }

-- ---- the file that a request names

-- the path in a command, if it has one
abbrev pub path_of : Command → Option (List ℕ)
path_of (Launch arguments) = Some arguments.program
path_of other = None

-- the path of the file that a request wants, where it is not refused before
abbrev pub path_in : Option Refusal → Ask → Option (List ℕ)
path_in (Some refusal) ask = None
path_in None (Request r) = path_of r.command
path_in None (Bad seq command refusal) = None

-- the file that the answer to the first that waits wants, if it wants one
abbrev pub wanted_by : Option Run → Phase → List Pending → Option (List ℕ)
wanted_by run phase [] = None
wanted_by run phase (p ∷ rest) = path_in (first_refusal (refusals run phase p)) p.ask
