-- A client: it sends requests to a session in its own process, takes what it is told, and keeps a mirror of it.
--
-- A client follows a session with all of its past: the requests that came there on its connection are among those that its
-- mirror was told, each as the first of its number; and what its mirror was fed are the bytes that were taken of the
-- connection. So it is an editor of that connection, and what its mirror holds was so when the last message was queued that
-- it took.
use Rattle.std.specs.Prelude.{◌≡◌, ℕ, ◌<◌, nat_le, nat_lt, ◌||◌, true, false, List, [], ◌∷◌, ◌++◌, length, Some, None, is_some, Result, Ok, Err}
use Rattle.framing.specs.Frames.{minimal_frame}
use Rattle.framing.specs.Reading.Tail.{Partial}
use Rattle.handlers.specs.Sizes.{is_size}
use Rattle.mirror.specs.Kept.{Kept as Mirrored, facts_of}
use Rattle.mirror.specs.Streams.{Input, StandsFor, after}
use Rattle.protocol.specs.Reading.{incoming_of}
use Rattle.protocol.specs.declared.request.Incoming.TheVariants.{Request as IsRequest}
use Rattle.protocol.specs.declared.request.Request.{Request}
use Rattle.queues.specs.declared.pending.Ask.{Ask}
use Rattle.requests.specs.Requests.{is_in_range, is_natural, request_text}
use Rattle.session.specs.Kept.{Happens, Kept as Session, Stands}
use Rattle.session.specs.Reached.{Happened, Reached, Whole}
use Rattle.session.specs.Sessions.{Beginning, Life, life_of}
use Rattle.session.specs.declared.config.ConfigError.{ConfigError}
use Rattle.session.specs.declared.config.ConfigError.TheVariants.{BadMemorySize}
use Rattle.session.specs.declared.event.Applied.{Applied}
use Rattle.session.specs.declared.event.Applied.TheVariants as applied
use Rattle.session.specs.declared.event.Event.{Event}
use Rattle.session.specs.declared.event.Event.TheVariants as event
use Rattle.session.specs.declared.event.EventError.{EventError}
use Rattle.session_laws.specs.Calls.{Adds}
use Rattle.session_laws.specs.Editors.{IsEditor, fed_in, first_told, sent_in}
use Rattle.session_laws.specs.Headline.{WereSo}
use Rattle.session_laws.specs.Known.{first_asked}
use Rattle.client.specs.declared.error.SendError.{SendError}
use Rattle.client.specs.declared.error.SendError.TheVariants as send

-- what a client keeps
pub record Kept : Type 0 where
  pub session : Session
  pub mirror : Mirrored
  pub last : ℕ

-- ---- what it follows

-- each request that came was told as the first of its number
abbrev pub WereTold : List Request → List Ask → Type 0
WereTold told heard = (n : ℕ) (r : Request) → first_asked heard n ≡ Some r → first_told told n ≡ Some r

-- no request was told with a number above this one
abbrev pub AreUpTo : ℕ → List Request → Type 0
AreUpTo last told = (n : ℕ) → last < n → first_told told n ≡ None

-- the session that was reached
abbrev pub life : Beginning → List Happened → Life
life from happened = life_of 1 (Reached from happened)

-- it follows the session that was reached so, which had one connection, its own
pub record Follows (from : Beginning) (happened : List Happened) (c : Kept) : Type 0 where
  pub none : from.program ≡ None
  pub stands : Stands c.session (Reached from happened)
  pub one : (Reached from happened).now.connections ≡ 1
  pub linked : is_some (Reached from happened).now.link ≡ true
  pub whole : (Reached from happened).now.tail ≡ Partial []
  pub inputs : List Input
  pub editor : IsEditor (life from happened) inputs
  pub mirror : StandsFor c.mirror (after inputs)
  pub taken : fed_in inputs ≡ (life from happened).taken
  pub told : WereTold (sent_in inputs) (life from happened).heard
  pub numbers : AreUpTo c.last (sent_in inputs)

-- What the mirror of a client holds was so when the last message was queued that it took.
abbrev pub KnowsWhatWasSo : Type 0
KnowsWhatWasSo = (from : Beginning) (happened : List Happened) (c : Kept) → Follows from happened c
    → WereSo (length (life from happened).taken) (life from happened) (facts_of c.mirror.known)

-- ---- what its calls do

-- whatever it followed, it follows what this leads to
abbrev pub GoesOn : List Happened → Kept → Kept → Type 0
GoesOn more old new = (from : Beginning) (happened : List Happened) → Follows from happened old → Follows from (happened ++ more) new

-- the session gave this answer, and whatever the client followed, it follows what the call leads to
abbrev pub Calls : Event → Result Applied EventError → Kept → Kept → Type 0
Calls e result old new = Happens old.session e result new.session × ((from : Beginning) (happened : List Happened) → Follows from happened old
    → (more : List Happened) × (Adds (Reached from happened) e result more × Follows from (happened ++ more) new))

-- A client begins where memory can have that size, with a connection.
abbrev pub Begins : ℕ → Result Kept ConfigError → Type 0
Begins size (Ok c) = (from : Beginning) × ((from.size ≡ size) × Follows from (Whole event.Connect ∷ []) c)
Begins size (Err why) = (why ≡ BadMemorySize) × (is_size size ≡ false)

-- the frame of a request
abbrev pub piece_of : Request → List ℕ
piece_of r = minimal_frame (request_text r.seq r.command)

-- A request has a number that none has that was told, and its numbers are in their ranges.
pub record IsNext (r : Request) (last : ℕ) : Type 0 where
  pub above : last < r.seq
  pub natural : is_natural r.seq ≡ true
  pub in_range : is_in_range r.command ≡ true

-- its frame is read as it
pub record IsPiece (r : Request) (piece : List ℕ) : Type 0 where
  pub is : piece ≡ piece_of r
  pub read : incoming_of (request_text r.seq r.command) ≡ Ok (IsRequest r)

-- whether a piece was taken, as an answer to who sent it
abbrev pub sending : Result (Unit {0}) EventError → Result (Unit {0}) SendError
sending (Ok done) = Ok done
sending (Err why) = Err (send.Session why)

-- this is the session's answer to a piece
abbrev pub Receives : List ℕ → Kept → Result Applied EventError → Kept → Type 0
Receives piece old answer new = Happens old.session (event.Recv piece) answer new.session

-- the mirror is told a request, and the session gets its frame
abbrev pub Pushes : Request → List ℕ → Kept → Result (Unit {0}) SendError → Kept → Type 0
Pushes r piece old (Ok done) new =
    GoesOn (Whole (event.Recv piece) ∷ []) old new × ((new.last ≡ r.seq) × Receives piece old (Ok applied.Recv) new)
Pushes r piece old (Err (send.Session why)) new = GoesOn [] old new × ((new.session ≡ old.session) × Receives piece old (Err why) new)
Pushes r piece old (Err send.NoMemory) new = GoesOn [] old new × (new.session ≡ old.session)
Pushes r piece old (Err why) new = ⊥

-- A request is sent, or it is not.
abbrev pub Sends : Request → Kept → Result (Unit {0}) SendError → Kept → Type 0
Sends r old (Ok done) new =
    GoesOn (Whole (event.Recv (piece_of r)) ∷ []) old new × ((new.last ≡ r.seq) × Receives (piece_of r) old (Ok applied.Recv) new)
Sends r old (Err send.Number) new = (nat_le r.seq old.last || nat_lt 2147483647 r.seq ≡ true) × (new ≡ old)
Sends r old (Err send.Range) new = (is_in_range r.command ≡ false) × (new ≡ old)
Sends r old (Err (send.Session why)) new = GoesOn [] old new × ((new.session ≡ old.session) × Receives (piece_of r) old (Err why) new)
Sends r old (Err send.NoMemory) new = GoesOn [] old new × (new.session ≡ old.session)

-- the bytes that wait are taken
abbrev pub taking : Kept → List Happened
taking c = Whole (event.Sent (length c.session.waiting)) ∷ []

-- They are, or none is.
abbrev pub Takes : {A E : Type 0} → Kept → Result A E → Kept → Type 0
Takes old (Ok taken) new = GoesOn (taking old) old new
Takes old (Err why) new = new ≡ old
