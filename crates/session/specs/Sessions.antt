-- A session with all of its past, and what events make of it.
--
-- Nothing that was queued, taken or asked is forgotten here: a session is what it is now, and the lives of all its
-- connections. A connection has a number, from 1. Its bytes are the frames of the messages that were queued for it, in
-- order. Those that were not taken yet wait, as long as the connection lasts: a message that is queued waits with all its
-- bytes, what is taken are the first bytes that wait, and what waits is dropped where a connection ends. An act needs no
-- past: what it makes of what a session is now, and of the bytes that wait, depends on these alone (`Kept`).
use Rattle.std.specs.Prelude.{◌≡◌, ℕ, ◌+◌, nat_lt, Bool, true, if◌then◌else◌, List, [], ◌∷◌, ◌++◌, length, take, drop, get_or}
use Rattle.std.specs.Prelude.{Option, Some, None, is_some, Result}
use Rattle.std.specs.List.{flat_map}
use Rattle.framing.specs.Reading.{reading_of}
use Rattle.framing.specs.Reading.Tail.{Partial}
use Rattle.replies.specs.declared.message.Message.{Message}
use Rattle.replies.specs.declared.message.Message.TheVariants.{Response, Event as IsEvent}
use Rattle.replies.specs.declared.response.Outcome.{Outcome}
use Rattle.session.specs.declared.TheConstants.{BODY_LIMIT}
use Rattle.session.specs.declared.event.Applied.{Applied}
use Rattle.session.specs.declared.event.Event.{Event}
use Rattle.session.specs.declared.event.EventError.{EventError}
use Rattle.session.specs.declared.limits.Limits.{Limits}
use Rattle.session.specs.declared.link.Link.{Link}
use Rattle.queues.specs.declared.pending.Ask.{Ask}
use Rattle.queues.specs.declared.pending.Pending.{Pending}
use Rattle.handlers.specs.declared.terms.Terms.{Terms}
use Rattle.debuggee.specs.Programs.{Program}
use Rattle.session.specs.Acts.{Now, Act, Open, Close, Accept, Agree, Become, Refer, Reply, Tell, HangUp, Take, opened, closed}
use Rattle.session.specs.Acts.{agreed, hung, refers}
use Rattle.session.specs.References.{References, ended, no_numbers, no_references, past_referred}
use Rattle.variables.specs.Laws.{Call}
use Rattle.session.specs.Acts.{numbered, accepted, read_on, fault_of_reading}
use Rattle.queues.specs.Arrivals.{no_arrivals, asks_of}
use Rattle.handlers.specs.Sizes.{is_size}
use Rattle.session.specs.Config.{HasImage, first_program}
use Rattle.session.specs.Effects.{World, effect, answer, after_all}
use Rattle.session.specs.Limits.{are_limits}
use Rattle.snapshots.specs.Shown.{Snapshot}
use Rattle.handlers.specs.Refusals.{response_to}
use Rattle.queues.specs.Writing.{frame_of}

-- a message as it was queued, with its number, and what an editor could see then
pub record Said : Type 0 where
  pub seq : ℕ
  pub message : Message
  pub snapshot : Snapshot

-- All of one connection: the bytes that were accepted, up to where a fault is decided, and the requests in them; the
-- messages that were queued; and the bytes of these that were taken.
pub record Life : Type 0 where
  pub accepted : List ℕ
  pub heard : List Ask
  pub said : List Said
  pub taken : List ℕ

-- nothing happened yet
abbrev pub no_life : Life
no_life = record { accepted = []; heard = []; said = []; taken = [] }

-- A session: what it is now, the bytes that wait, the life of the last connection that was made, the lives before it, and all
-- references that were ever issued. A life stays when its connection ends. The first is that of no connection: nothing
-- happened in it.
pub record Session : Type 0 where
  pub now : Now
  pub waiting : List ℕ
  pub before : List Life
  pub life : Life
  pub references : References

-- the lives, each at the place that is its connection's number
abbrev pub lives : Session → List Life
lives s = s.before ++ s.life ∷ []

-- the life of a connection; of one that was never made, none
abbrev pub life_of : ℕ → Session → Life
life_of c s = get_or (lives s) c no_life

-- the frame of a message with its number
abbrev pub frame_said : Said → List ℕ
frame_said m = frame_of m.seq m.message

-- all bytes of a connection
abbrev pub bytes_of : Life → List ℕ
bytes_of life = flat_map frame_said life.said

-- whether a stream has a fault: of one of its bodies, or where it continues as no frame can
abbrev pub is_faulty : List ℕ → Bool
is_faulty stream = is_some (fault_of_reading (reading_of BODY_LIMIT stream))

-- a stream that came, and then a piece, up to where a fault is decided
abbrev pub up_to_fault : List ℕ → List ℕ → List ℕ
up_to_fault stream [] = stream
up_to_fault stream (byte ∷ piece) = if is_faulty stream then stream else up_to_fault (stream ++ byte ∷ []) piece

-- ---- acts

-- a connection is made, if there is none
abbrev pub opened_on : Option Link → Session → Session
opened_on (Some link) s = s
opened_on None s = record { now = opened s.now; waiting = []; before = lives s; life = no_life; references = s.references }

-- a life in which one more piece came, after what had arrived of the next frame
abbrev pub with_piece : Life → Now → List ℕ → Life
with_piece life now piece = record life {
  accepted = up_to_fault life.accepted piece;
  heard = life.heard ++ asks_of (read_on now piece).bodies;
}

-- a piece is taken on a connection
abbrev pub accepting : Link → List ℕ → Session → Session
accepting link piece s = record s { now = accepted s.now (read_on s.now piece) link; life = with_piece s.life s.now piece }

-- a piece is taken, if there is a connection that takes one
abbrev pub accepted_on : Option Link → List ℕ → Session → Session
accepted_on None piece s = s
accepted_on (Some link) piece s = if link.is_closing then s else accepting link piece s

-- this is agreed on the connection, if there is one
abbrev pub agreed_on : Option Link → Terms → Session → Session
agreed_on None terms s = s
agreed_on (Some link) terms s = record s { now = agreed s.now link terms }

-- references are issued on it, or the stop ends for them
abbrev pub referred_on : Option Link → Option Call → Session → Session
referred_on None call s = s
referred_on (Some link) call s = record s {
  now = refers s.now call;
  references = past_referred s.now.connections call s.references;
}

-- what an editor can be told now
abbrev pub snapshot_of : Now → Snapshot
snapshot_of now = record { debuggee = now.debuggee; numbers = now.numbers }

-- the message that is said next
abbrev pub said_next : Now → Link → Message → Said
said_next now link message = record { seq = link.seq + 1; message = message; snapshot = snapshot_of now }

-- a life in which a message more was queued
abbrev pub with_said : Life → Said → Life
with_said life m = record life { said = life.said ++ m ∷ [] }

-- a message is queued on a connection, with its next number; these requests wait then
abbrev pub saying : Link → Message → List Pending → Session → Session
saying link message rest s = record s {
  now = numbered s.now link rest;
  waiting = s.waiting ++ frame_of (link.seq + 1) message;
  life = with_said s.life (said_next s.now link message);
}

-- a message is queued, if there is a connection and a number for it
abbrev pub said_on : Option Link → Message → List Pending → Session → Session
said_on None message rest s = s
said_on (Some link) message rest s = if nat_lt link.seq s.now.limits.last_seq then saying link message rest s else s

-- the first of the requests that wait is answered
abbrev pub replied_on : List Pending → Outcome → Session → Session
replied_on [] outcome s = s
replied_on (p ∷ rest) outcome s = said_on s.now.link (Response (response_to p.ask outcome)) rest s

-- the connection takes nothing more, if there is one
abbrev pub hung_on : Option Link → Session → Session
hung_on None s = s
hung_on (Some link) s = record s { now = hung s.now link }

-- a life in which these bytes were taken too
abbrev pub with_taken : Life → List ℕ → Life
with_taken life bytes = record life { taken = life.taken ++ bytes }

-- a session with its past, after an act
abbrev pub performed_on : Act → Session → Session
performed_on Open s = opened_on s.now.link s
performed_on Close s = record s { now = closed s.now; waiting = []; references = ended s.references }
performed_on (Accept piece) s = accepted_on s.now.link piece s
performed_on (Agree terms) s = agreed_on s.now.link terms s
performed_on (Refer call) s = referred_on s.now.link call s
performed_on (Become debuggee) s = record s { now = record s.now { debuggee = debuggee } }
performed_on (Reply outcome) s = replied_on s.now.arrivals.pending outcome s
performed_on (Tell event) s = said_on s.now.link (IsEvent event) s.now.arrivals.pending s
performed_on HangUp s = hung_on s.now.link s
performed_on (Take n) s = record s { waiting = drop n s.waiting; life = with_taken s.life (take n s.waiting) }

-- sessions with their past, as events see them
abbrev pub histories : World Session
histories = record { see = λ s. record { now = s.now; waits = length s.waiting }; perform = performed_on }

-- what an event leaves of a session
abbrev pub Effect : Session → Event → Session
Effect s e = effect histories e s

-- what a session answers to an event
abbrev pub Answer : Session → Event → Result Applied EventError
Answer s e = answer histories e s

-- what a session begins with: its limits, which are right, how much memory a machine gets, which it can have, and a program, if one is
-- given: the path of its file, and what that holds, which has an image
pub record Beginning : Type 0 where
  pub limits : Limits
  pub size : ℕ
  pub program : Option (List ℕ × List ℕ)
  pub numbers : are_limits limits ≡ true
  pub memory : is_size size ≡ true
  pub image : HasImage program size

-- what a session is before anything happened, by the program that is debugged then
abbrev pub nothing_with : Limits → ℕ → Option Program → Now
nothing_with limits size program = record {
  limits = limits;
  size = size;
  connections = 0;
  link = None;
  arrivals = no_arrivals;
  tail = Partial [];
  fault = None;
  debuggee = record { program = program; last_break = 0 };
  numbers = no_numbers limits.last_ref;
}

abbrev pub nothing_yet : Beginning → Now
nothing_yet from = nothing_with from.limits from.size (first_program from.program from.size)

-- a session to which nothing happened
abbrev pub start : Beginning → Session
start from = record { now = nothing_yet from; waiting = []; before = []; life = no_life; references = no_references }

-- what a list of events leaves
abbrev pub After : Beginning → List Event → Session
After from events = after_all histories events (start from)
