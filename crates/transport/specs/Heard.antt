-- What was heard of a stream: its messages, one after the other.
--
-- A stream is made of frames, and the bodies of these are messages or are none (`Rattle.protocol.specs.Reading`). An
-- adapter looks at requests, and at what is no message; what else an editor sends it passes over. What was heard so far
-- is a past: the bytes that were read, and the messages that were given of them.
use Rattle.std.specs.Prelude.{◌≡◌, ℕ, Bool, true, false, List, [], ◌∷◌, ◌++◌, filter, map, is_some, Result, Ok, Err}
use Rattle.framing.specs.Reading.{Tail, reading_of}
use Rattle.framing.specs.Reading.Tail.{Partial, Faulty}
use Rattle.framing.specs.Streams.{Unframed, StandsFor, fault_of}
use Rattle.protocol.specs.declared.request.Incoming.{Incoming}
use Rattle.protocol.specs.declared.request.Incoming.TheVariants.{Request, Bad, Ignored}
use Rattle.protocol.specs.declared.request.MessageError.{MessageError}
use Rattle.protocol.specs.Reading.{incoming_of}
use Rattle.session.specs.declared.TheConstants.{BODY_LIMIT}

-- whether a stream continues as no frame can
abbrev pub has_fault : Tail → Bool
has_fault tail = is_some (fault_of tail)

-- An adapter looks at requests, and at what is no message; not at responses and events.
abbrev pub is_looked_at : Result Incoming MessageError → Bool
is_looked_at (Ok (Request r)) = true
is_looked_at (Ok (Bad seq command refusal)) = true
is_looked_at (Ok Ignored) = false
is_looked_at (Err e) = true

-- what the bodies are, those that are not looked at left out
abbrev pub messages_of : List (List ℕ) → List (Result Incoming MessageError)
messages_of bodies = filter is_looked_at (map incoming_of bodies)

-- all the messages of what was read
unfoldable pub messages_in : List ℕ → List (Result Incoming MessageError)
messages_in input = messages_of (reading_of BODY_LIMIT input).bodies

-- all that was read so far, and the messages that were given of it
pub record Heard : Type 0 where
  pub read : List ℕ
  pub given : List (Result Incoming MessageError)

-- The bodies that were taken are those of the messages given.
pub record HasHeard (unframer : Unframed) (heard : Heard) : Type 0 where
  pub taken : List (List ℕ)
  pub limit : unframer.limit ≡ BODY_LIMIT
  pub stands : StandsFor unframer (record { fed = heard.read; lent = taken })
  pub given : heard.given ≡ messages_of taken

-- one message more was given
abbrev pub and_gave : Heard → Incoming → Heard
and_gave heard incoming = record heard { given = heard.given ++ Ok incoming ∷ [] }

-- the next of the messages is none, for this reason
abbrev pub NextFails : Heard → MessageError → Type 0
NextFails heard e = (later : List (Result Incoming MessageError))
    × (messages_in heard.read ≡ heard.given ++ Err e ∷ later)

-- what a server has read and not yet given: the unframer, and a piece that it was not yet fed
pub record Unread : Type 0 where
  pub unframer : Unframed
  pub pending : List ℕ

-- What was read was fed, but for the pending piece.
pub record HasRead (unread : Unread) (heard : Heard) : Type 0 where
  pub fed : List ℕ
  pub has_heard : HasHeard unread.unframer (record { read = fed; given = heard.given })
  pub read : heard.read ≡ fed ++ unread.pending

-- more bytes were read
abbrev pub and_read : Heard → List ℕ → Heard
and_read heard piece = record heard { read = heard.read ++ piece }

-- All messages of what was read were given.
abbrev pub AllGiven : Heard → Type 0
AllGiven heard = messages_in heard.read ≡ heard.given

-- a stream may still continue
abbrev pub IsUnfinished : Tail → Type 0
IsUnfinished (Partial rest) = Unit {0}
IsUnfinished (Faulty fault) = ⊥

-- All messages of what was read were given, and the stream may still continue: more is to be read.
abbrev pub NeedsMore : Heard → Type 0
NeedsMore heard = AllGiven heard × IsUnfinished (reading_of BODY_LIMIT heard.read).tail

-- a message of what was read is none
abbrev pub IsNoMessage : Heard → Type 0
IsNoMessage heard = (e : MessageError) × NextFails heard e
