-- What an event does to a session, and what it answers (base protocol; DAP specification, "Sequence Numbers").
--
-- An event is one call. It is refused and then changes nothing, or it is done: it answers, and acts.
--
-- A connection takes pieces of a stream until it is closing. It is closing once its stream has a fault, once
-- `disconnect` was answered, and once its last number was given to a message. A fault is a body that is no message, or
-- a stream that continues as no frame can, whichever comes first; what comes after it is dropped, and what came before
-- it is still answered. When the last number was given, nothing can be answered any more, and the requests that wait
-- are dropped.
use Rattle.std.specs.Prelude.{◌≡◌, refl, ℕ, ◌+◌, ◌==◌, nat_lt, nat_le, Bool, true, false, ◌&&◌, ◌||◌, if◌then◌else◌}
use Rattle.std.specs.Prelude.{List, [], ◌∷◌, ◌++◌, map, length, Option, Some, None}
use Rattle.std.specs.Prelude.{Result, Ok, Err}
use Rattle.std.specs.List.{list_any}
use Rattle.debuggee.specs.Programs.{Program, left, marked, with_program}
use Rattle.debuggee.specs.declared.run.Mark.TheVariants as mark
use Rattle.session.specs.declared.TheConstants.{BODY_LIMIT}
use Rattle.session.specs.declared.state.TheConstants.{MOST_PIECE, MOST_PENDING, FULL, LAST_CONNECTION}
use Rattle.session.specs.declared.event.Applied.{Applied}
use Rattle.session.specs.declared.event.Applied.TheVariants.{Connect as Connected, Recv as Received, Turn as DidTurn}
use Rattle.session.specs.declared.event.Applied.TheVariants.{Sent as DidSend, DropConnection as Dropped, Hold as Held}
use Rattle.session.specs.declared.event.Event.{Event}
use Rattle.session.specs.declared.event.Event.TheVariants.{Connect, Recv, Turn, Slice, Hold, Sent, DropConnection}
use Rattle.session.specs.declared.event.EventError.{EventError}
use Rattle.session.specs.declared.event.EventError.TheVariants.{NotConnected, AlreadyConnected, Busy, SentTooMuch}
use Rattle.session.specs.declared.event.EventError.TheVariants.{PieceTooLong, Closing, Spent}
use Rattle.session.specs.declared.event.Turned.TheVariants.{Answered, Nothing, Full}
use Rattle.session.specs.declared.link.Link.{Link}
use Rattle.queues.specs.declared.pending.Pending.{Pending}
use Rattle.handlers.specs.declared.terms.Terms.{Terms}
use Rattle.handlers.specs.Given.{Answering}
use Rattle.session.specs.Acts.{Now, Seen, Act, Open, Close, Accept, Agree, Become, Refer, Reply, Tell, HangUp, Take}
use Rattle.session.specs.Acts.{given_of, grows}
use Rattle.handlers.specs.Demands.{run_of}
use Rattle.handlers.specs.Refusals.{answer_of, wanted_by}
use Rattle.session.specs.Phases.{is_active}
use Rattle.session.specs.Slices.{telling}
use Rattle.stepping.specs.declared.tick.Tick.{Tick}

-- a body has at most 1 MiB, and a piece at most 65,536 bytes
greatest_body : BODY_LIMIT ≡ 1048576
greatest_body = refl

longest_piece : MOST_PIECE ≡ 65536
longest_piece = refl

-- a piece is refused where this many requests wait, and no request is answered where more than this many bytes wait
most_that_wait : MOST_PENDING ≡ 256
most_that_wait = refl

full : FULL ≡ 65536
full = refl

-- at most this many connections are made
last_connection : LAST_CONNECTION ≡ 4294967295
last_connection = refl

-- whether one of the acts needs memory
abbrev pub needs_memory : List Act → Bool
needs_memory acts = list_any grows acts

-- what an event leads to: its answer, and its acts
pub record Outcome : Type 0 where
  pub answer : Result Applied EventError
  pub acts : List Act

-- a refusal: nothing is done
abbrev pub refused : EventError → Outcome
refused e = record { answer = Err e; acts = [] }

-- a success, with its acts
abbrev pub done : Applied → List Act → Outcome
done x acts = record { answer = Ok x; acts = acts }

-- an answer that closes the connection does so at its end
abbrev pub closing : Bool → List Act
closing true = HangUp ∷ []
closing false = []

-- an answer: its change stands before it is queued, and what is told is queued after it
abbrev pub answering : Answering → List Act
answering a = Become a.debuggee ∷ Refer a.references ∷ Agree a.terms ∷ Reply a.outcome
    ∷ (map Tell a.events ++ closing a.closes)

-- what a request is answered, with the file that it names
abbrev pub answer_to : Now → Terms → Option (List ℕ) → Pending → Answering
answer_to now terms file p = answer_of (record { given = given_of now; terms = terms; file = file }) p

-- what a turn comes to, by the requests that wait
abbrev pub next_turn : Now → Terms → Option (List ℕ) → List Pending → Outcome
next_turn now terms file [] = done (DidTurn Nothing) []
next_turn now terms file (p ∷ rest) = done (DidTurn Answered) (answering (answer_to now terms file p))

-- where nothing is owed
abbrev pub answers_next : Seen → Link → Option (List ℕ) → Outcome
answers_next seen link file = if nat_lt FULL seen.waits then done (DidTurn Full) []
    else next_turn seen.now link.terms file seen.now.arrivals.pending

-- what is owed comes first
abbrev pub turn_by : Option Tick → Seen → Link → Program → Option (List ℕ) → Outcome
turn_by (Some tick) seen link p file = done (DidTurn Answered) (telling seen.now p tick)
turn_by None seen link p file = answers_next seen link file

abbrev pub turn_of : Option Program → Seen → Link → Option (List ℕ) → Outcome
turn_of None seen link file = answers_next seen link file
turn_of (Some p) seen link file = turn_by p.owed seen link p file

-- whoever gives the program time marks it, to hear what the editor says
abbrev pub holding : Now → List Act
holding now = Become (with_program (marked mark.Hold) now.debuggee) ∷ []

-- the editor has gone
abbrev pub leaving : Now → List Act
leaving now = Become (with_program left now.debuggee) ∷ Close ∷ []

-- an event on a connection
abbrev pub on_link : Seen → Link → Event → Outcome
on_link seen link Connect = refused AlreadyConnected
on_link seen link (Recv piece) =
    if link.is_closing then refused Closing
    else if nat_lt MOST_PIECE (length piece) then refused PieceTooLong
    else if nat_le MOST_PENDING (length seen.now.arrivals.pending) then refused Busy
    else done Received (Accept piece ∷ [])
on_link seen link (Turn file) = turn_of seen.now.debuggee.program seen link file
on_link seen link (Slice n) = done Held []
on_link seen link Hold = done Held (holding seen.now)
on_link seen link (Sent n) =
    if nat_lt seen.waits n then refused SentTooMuch else done DidSend (Take n ∷ [])
on_link seen link DropConnection = done Dropped (leaving seen.now)

-- what an event does where there is no connection
abbrev pub with_no_link : Seen → Event → Outcome
with_no_link seen Connect =
    if seen.now.connections == LAST_CONNECTION then refused Spent
    else done (Connected (seen.now.connections + 1)) (Open ∷ [])
with_no_link seen (Recv piece) = refused NotConnected
with_no_link seen (Turn file) = refused NotConnected
with_no_link seen (Slice n) = done Held []
with_no_link seen Hold = done Held (holding seen.now)
with_no_link seen (Sent n) = refused NotConnected
with_no_link seen DropConnection = refused NotConnected

-- what an event comes to, by the connection, if there is one
abbrev pub outcome_at : Seen → Option Link → Event → Outcome
outcome_at seen None e = with_no_link seen e
outcome_at seen (Some link) e = on_link seen link e

-- What an event does and answers, but for a slice, which goes beat by beat (`Effects`): its row is never asked for.
abbrev pub outcome : Seen → Event → Outcome
outcome seen e = outcome_at seen seen.now.link e

-- whether all is said on a connection: it takes nothing more, no request waits for its answer, and no byte waits
abbrev pub is_finished_on : Option Link → List Pending → ℕ → Bool
is_finished_on None pending waits = false
is_finished_on (Some link) pending waits = link.is_closing && (length pending == 0) && (waits == 0)

-- whether all is said, on a connection
abbrev pub is_finished : Seen → Bool
is_finished seen = is_finished_on seen.now.link seen.now.arrivals.pending seen.waits

-- the file that the answer to the first request that waits wants, if it wants one
abbrev pub wanted_on : Now → Option Link → Option (List ℕ)
wanted_on now None = None
wanted_on now (Some link) = wanted_by (run_of now.debuggee.program) link.terms.phase now.arrivals.pending

-- ---- memory

-- whether something is owed
abbrev pub is_owed_by : Option Tick → Bool
is_owed_by None = false
is_owed_by (Some tick) = true

abbrev pub is_owed : Option Program → Bool
is_owed None = false
is_owed (Some p) = is_owed_by p.owed

-- whether something is owed to an editor that has said all: it is told first
abbrev pub is_to_tell : Now → Bool
is_to_tell now = is_active now.link && is_owed now.debuggee.program

-- whether an event may lack memory: a turn tells what is owed, and acts may need some
abbrev pub may_lack : Seen → Event → Bool
may_lack seen Connect = needs_memory (outcome seen Connect).acts
may_lack seen (Recv piece) = needs_memory (outcome seen (Recv piece)).acts
may_lack seen (Turn file) = is_to_tell seen.now || needs_memory (outcome seen (Turn file)).acts
may_lack seen (Slice n) = false
may_lack seen Hold = needs_memory (outcome seen Hold).acts
may_lack seen (Sent n) = needs_memory (outcome seen (Sent n)).acts
may_lack seen DropConnection = needs_memory (outcome seen DropConnection).acts
