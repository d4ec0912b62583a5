-- All that was told and all that came, and the facts after it.
--
-- An editor tells its mirror each request that it sends, and feeds it the bytes that come, in any pieces. The bytes are one
-- stream of frames (base protocol); each body is a message. The facts are those that the whole messages make, one after the
-- other, each with the requests that were told when its last byte came. Where the stream has a fault, or a whole body is no
-- message of the adapter, nothing after it tells anything.
use Rattle.std.specs.Prelude.{◌≡◌, ℕ, List, [], ◌∷◌, ◌++◌, ◌⊎◌, map, fold, drop, length, Option, Some, None, Result, Ok, Err}
use Rattle.framing.specs.Reading.{Tail, Reading, reading_of}
use Rattle.framing.specs.Streams.{Unframed, fault_of, reading_after}
use Rattle.framing.specs.declared.error.FrameError.{FrameError}
use Rattle.protocol.specs.declared.request.MessageError.{MessageError}
use Rattle.protocol.specs.declared.request.Request.{Request}
use Rattle.replies.specs.Reading.{reading_of as message_read}
use Rattle.replies.specs.declared.message.Message.{Message}
use Rattle.facts.specs.Facts.{Facts, nothing_known, unknown}
use Rattle.mirror.specs.Folding.{folded}
use Rattle.mirror.specs.Kept.{Kept, Link, at, facts_of}
use Rattle.mirror.specs.Kept.Link.{Open, Closed}
use Rattle.mirror.specs.Requests.{asked_of, told_of}
use Rattle.mirror.specs.declared.asked.Asked.{Asked}
use Rattle.mirror.specs.declared.error.MirrorError.{MirrorError}
use Rattle.mirror.specs.declared.error.MirrorError.TheVariants.{Frame, Message as NoMessage, NoMemory}

-- ---- the messages of a stream

-- the most bytes that a body may have
abbrev pub body_limit : ℕ
body_limit = 4294967295

-- the message without its number
abbrev pub without_number : Result (ℕ × Message) MessageError → Result Message MessageError
without_number (Ok found) = Ok found.1
without_number (Err error) = Err error

-- the message that a body is, or why it is none
abbrev pub message_of : List ℕ → Result Message MessageError
message_of body = without_number (message_read body)

-- the messages up to the first that is none
abbrev pub messages_in : List (Result Message MessageError) → List Message
messages_in [] = []
messages_in (Ok message ∷ others) = message ∷ messages_in others
messages_in (Err error ∷ others) = []

-- why that one is none, if there is one
abbrev pub error_in : List (Result Message MessageError) → Option MessageError
error_in [] = None
error_in (Ok message ∷ others) = error_in others
error_in (Err error ∷ others) = Some error

-- the same of bodies
abbrev pub messages_of : List (List ℕ) → List Message
messages_of bodies = messages_in (map message_of bodies)

abbrev pub error_of : List (List ℕ) → Option MessageError
error_of bodies = error_in (map message_of bodies)

-- the first fault: a body that is no message comes before a fault of the frames after it
abbrev pub first_fault : Option MessageError → Option FrameError → Option MirrorError
first_fault (Some error) frame = Some (NoMessage error)
first_fault None (Some fault) = Some (Frame fault)
first_fault None None = None

abbrev pub fault_in : Reading → Option MirrorError
fault_in r = first_fault (error_of r.bodies) (fault_of r.tail)

-- the messages of a stream
abbrev pub messages_so_far : List ℕ → List Message
messages_so_far stream = messages_of (reading_of body_limit stream).bodies

-- the fault of a stream, if it has one
abbrev pub stream_fault : List ℕ → Option MirrorError
stream_fault stream = fault_in (reading_of body_limit stream)

-- ---- what was told and what came

-- what was asked, the facts, and all bytes that came
pub record Past : Type 0 where
  pub asked : ℕ → Option Asked
  pub facts : Facts
  pub bytes : List ℕ

-- before anything
abbrev pub nothing_past : Past
nothing_past = record { asked = unknown; facts = nothing_known; bytes = [] }

-- a request is told
abbrev pub with_request : Past → Request → Past
with_request past request = record past { asked = told_of past.asked request.seq (asked_of request.command) }

-- the messages that a piece makes whole
abbrev pub newly_whole : List ℕ → List ℕ → List Message
newly_whole stream piece = drop (length (messages_so_far stream)) (messages_so_far (stream ++ piece))

-- a piece comes
abbrev pub with_piece : Past → List ℕ → Past
with_piece past piece = record past {
  facts = fold (folded past.asked) past.facts (newly_whole past.bytes piece);
  bytes = past.bytes ++ piece;
}

-- what an editor does
pub data Input : Type 0 where
  Sent : Request → Input
  Fed : List ℕ → Input

abbrev pub after_input : Past → Input → Past
after_input past (Sent request) = with_request past request
after_input past (Fed piece) = with_piece past piece

-- the past that a list of inputs makes
abbrev pub after : List Input → Past
after inputs = fold after_input nothing_past inputs

-- ---- what is kept of it

-- the stream continues from its tail, or has a fault
abbrev pub link_by : Option MirrorError → Tail → Link
link_by None tail = Open tail
link_by (Some error) tail = Closed error

abbrev pub link_of : Reading → Link
link_of r = link_by (fault_in r) r.tail

-- the fault of a link, if it has one
abbrev pub link_fault : Link → Option MirrorError
link_fault (Open tail) = None
link_fault (Closed error) = Some error

-- the requests that were told are kept, as long as something can still come
abbrev pub AsksAre : Link → (ℕ → Option Asked) → (ℕ → Option Asked) → Type 0
AsksAre (Open tail) kept asked = kept ≡ asked
AsksAre (Closed error) kept asked = Unit {0}

-- What is kept represents a past: its facts are those of the past, and it continues as the past does.
pub record StandsFor (kept : Kept) (past : Past) : Type 0 where
  pub facts : facts_of kept.known ≡ past.facts
  pub link : kept.link ≡ link_of (reading_of body_limit past.bytes)
  pub asked : AsksAre kept.link (at kept.asked) past.asked

-- what a call answers: the fault, if there is one
abbrev pub answer_by : Option MirrorError → Result (Unit {0}) MirrorError
answer_by None = Ok tt
answer_by (Some error) = Err error

-- what is kept after a reading that continues from it
pub record GoesOn (old : Kept) (r : Reading) (new : Kept) : Type 0 where
  pub facts : facts_of new.known ≡ fold (folded (at old.asked)) (facts_of old.known) (messages_of r.bodies)
  pub asked : new.asked ≡ old.asked
  pub link : new.link ≡ link_of r

-- `feed` by what is kept: a stream with a fault stays as it is
abbrev pub FedBy : Link → Kept → List ℕ → Kept → Type 0
FedBy (Open tail) old piece new = GoesOn old (reading_after body_limit tail piece) new
FedBy (Closed error) old piece new = new ≡ old

-- `feed`: the piece is taken, and the answer is the fault that is kept then, if there is one; or no memory was left, and
-- nothing changed
abbrev pub Feeds : Kept → List ℕ → Result (Unit {0}) MirrorError → Kept → Type 0
Feeds old piece result new =
    (FedBy old.link old piece new × (result ≡ answer_by (link_fault new.link))) ⊎ ((result ≡ Err NoMemory) × (new ≡ old))

-- so it is for each past: the facts are those of the past with the piece, and the answer is the fault of all bytes that
-- came
abbrev pub FeedsPast : Past → List ℕ → Kept → Result (Unit {0}) MirrorError → Kept → Type 0
FeedsPast past piece old result new =
    (StandsFor new (with_piece past piece) × (result ≡ answer_by (stream_fault (past.bytes ++ piece))))
    ⊎ ((result ≡ Err NoMemory) × (new ≡ old))

-- `sent` for each past
abbrev pub TellsPast : Past → Request → Kept → Result (Unit {0}) MirrorError → Kept → Type 0
TellsPast past request old result new =
    (StandsFor new (with_request past request) × (result ≡ answer_by (stream_fault past.bytes)))
    ⊎ ((result ≡ Err NoMemory) × (new ≡ old))

-- for the mirror's invariant: as long as there is no fault no body waits, and the stream has none
pub record Follows (unframer : Unframed) (fault : Option MirrorError) : Type 0 where
  pub limit : unframer.limit ≡ body_limit
  pub waiting : fault ≡ None → unframer.waiting ≡ []
  pub tail : fault ≡ None → fault_of unframer.tail ≡ None
