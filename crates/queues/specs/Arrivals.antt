-- The requests that came on a connection and wait for their answers (DAP specification, `Request`, `CancelRequest`;
-- `ProtocolMessage.seq`).
--
-- An editor numbers its requests, and each number is above those before it; it may leave gaps. A request whose number
-- is not is a repeat: it will be refused, and counts for nothing else.
--
-- A `cancel` acts when it comes, not when it is answered. It names a request by its number; where that one came before
-- it and still waits, the one named will be answered as cancelled. So a `cancel` can come too late, and then it is what
-- will be refused. One that names nothing cancels nothing. A `cancel` is a request like others, and can itself be
-- cancelled; what it did stays.
--
-- What is no request is passed over. What is no message at all ends the reading: nothing after it is looked at.
use Rattle.std.specs.Prelude.{ℕ, ℤ, pos, negsuc, Bool, true, false, not, ◌&&◌, ◌==◌, nat_lt, if◌then◌else◌, List}
use Rattle.std.specs.Prelude.{[], ◌∷◌, ◌++◌, map, fold, Option, Some, None, Result, Ok, Err}
use Rattle.std.specs.List.{list_any}
use Rattle.protocol.specs.Commands.{name_of}
use Rattle.protocol.specs.Reading.{incoming_of}
use Rattle.protocol.specs.declared.command.Command.{Command}
use Rattle.protocol.specs.declared.command.Command.TheVariants.{Cancel}
use Rattle.protocol.specs.declared.request.Incoming.{Incoming}
use Rattle.protocol.specs.declared.request.Incoming.TheVariants.{Request as IsRequest, Bad as IsBad, Ignored}
use Rattle.protocol.specs.declared.request.MessageError.{MessageError}
use Rattle.queues.specs.declared.pending.Ask.{Ask}
use Rattle.queues.specs.declared.pending.Ask.TheVariants.{Request, Bad}
use Rattle.queues.specs.declared.pending.Fate.{Fate}
use Rattle.queues.specs.declared.pending.Fate.TheVariants.{Waits, Repeated, Cancelled, NamesNone}
use Rattle.queues.specs.declared.pending.Pending.{Pending}

-- the number of what is asked
abbrev pub number_of : Ask → ℕ
number_of (Request r) = r.seq
number_of (Bad seq command refusal) = seq

-- the name of what is asked
abbrev pub name_asked : Ask → List ℕ
name_asked (Request r) = name_of r.command
name_asked (Bad seq command refusal) = command

-- the number that a command cancels, if it cancels one
abbrev pub cancels_by : Command → Option ℤ
cancels_by (Cancel arguments) = arguments.request_id
cancels_by other = None

-- the number that a request cancels, if it cancels one
abbrev pub cancels : Ask → Option ℤ
cancels (Request r) = cancels_by r.command
cancels (Bad seq command refusal) = None

-- The requests of a stream, in order, up to the first body that is no message.
abbrev pub asks_in : List (Result Incoming MessageError) → List Ask
asks_in [] = []
asks_in (Ok (IsRequest r) ∷ messages) = Request r ∷ asks_in messages
asks_in (Ok (IsBad seq command refusal) ∷ messages) = Bad seq command refusal ∷ asks_in messages
asks_in (Ok Ignored ∷ messages) = asks_in messages
asks_in (Err fault ∷ messages) = []

-- why that body is none, if there is one
abbrev pub fault_in : List (Result Incoming MessageError) → Option MessageError
fault_in [] = None
fault_in (Ok incoming ∷ messages) = fault_in messages
fault_in (Err fault ∷ messages) = Some fault

-- the requests in bodies, up to the first that is no message
abbrev pub asks_of : List (List ℕ) → List Ask
asks_of bodies = asks_in (map incoming_of bodies)

-- why the first body that is no message is none, if there is one
abbrev pub message_fault_of : List (List ℕ) → Option MessageError
message_fault_of bodies = fault_in (map incoming_of bodies)

-- the highest number of a request so far, and the requests that wait, first come first
pub record Arrivals : Type 0 where
  pub highest : Option ℕ
  pub pending : List Pending

-- before the first
abbrev pub no_arrivals : Arrivals
no_arrivals = record { highest = None; pending = [] }

-- the first that waits
abbrev pub first_pending : List Pending → Option Pending
first_pending [] = None
first_pending (p ∷ rest) = Some p

-- those after the first
abbrev pub others_pending : List Pending → List Pending
others_pending [] = []
others_pending (p ∷ rest) = rest

-- whether a number is above the highest so far; the first always is
abbrev pub is_above : Option ℕ → ℕ → Bool
is_above None n = true
is_above (Some highest) n = nat_lt highest n

-- whether it is a repeat
abbrev pub is_repeat : Fate → Bool
is_repeat Waits = false
is_repeat Repeated = true
is_repeat Cancelled = false
is_repeat NamesNone = false

-- whether a whole number is this one
abbrev pub is_number : ℤ → ℕ → Bool
is_number (pos n) seq = n == seq
is_number (negsuc n) seq = false

-- whether a request that waits is the one of that number: a repeat is none
abbrev pub is_named : ℤ → Pending → Bool
is_named id p = not (is_repeat p.fate) && is_number id (number_of p.ask)

-- the request, after a `cancel` of that number came
abbrev pub cancelled_by : ℤ → Pending → Pending
cancelled_by id p = if is_named id p then record p { fate = Cancelled } else p

-- what will become of a `cancel` of that number, after these
abbrev pub fate_of_cancel : ℤ → List Pending → Fate
fate_of_cancel id pending = if list_any (is_named id) pending then Waits else NamesNone

-- a request more, which is no repeat, by what it cancels
abbrev pub pending_with : Option ℤ → List Pending → Ask → List Pending
pending_with None pending ask = pending ++ record { ask = ask; fate = Waits } ∷ []
pending_with (Some id) pending ask = map (cancelled_by id) pending
    ++ record { ask = ask; fate = fate_of_cancel id pending } ∷ []

-- a request more
abbrev pub joined : Arrivals → Ask → Arrivals
joined came ask =
    if is_above came.highest (number_of ask)
    then record { highest = Some (number_of ask); pending = pending_with (cancels ask) came.pending ask }
    else record { highest = came.highest; pending = came.pending ++ record { ask = ask; fate = Repeated } ∷ [] }

-- requests more, one after the other
abbrev pub all_joined : Arrivals → List Ask → Arrivals
all_joined came asks = fold joined came asks
