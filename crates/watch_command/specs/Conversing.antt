-- What was said while events happened: what came on each connection, and the messages that were queued, each with the number
-- of its event.
--
-- Events count from 1. Each says, on lines of their own and in this order:
--
-- - `N connection C`: an editor connected, and this is the connection's number.
-- - `N -> BODY`: the body of a frame that came, and was whole with this event.
-- - `N -- WORDS`: what closed the connection, where what came next can be no frame, or a body is no message; or, where the
--   connection ended, the bytes that came after the last whole frame.
-- - `N <- BODY`: the body of a frame that was queued by this event, whenever it was sent. So an answer stands with the turn
--   that made it.
--
-- What came is read as frames (`framing`), up to the limit of a session. What was queued are the bytes that wait after an
-- event, beyond those that waited before it. Only lines of the events are shown that were asked for, from one to another.
-- Where facts are asked for, each message is followed by lines of what an editor knows by then. No definition says what they
-- are.
use Rattle.std.specs.Prelude.{◌≡◌, ◌⊎◌, ℕ, ◌+◌, nat_le, ◌&&◌, if◌then◌else◌, Bool, false, List, [], ◌∷◌, ◌++◌, length, drop, Option, Some, None, Result, Ok, Err, codes, decimal}
use Rattle.std.specs.Io.KnownBytes.{Appends}
use Rattle.std.specs.List.{flat_map}
use Rattle.framing.specs.Reading.{Tail, reading_of}
use Rattle.framing.specs.Reading.Tail.{Partial, Faulty}
use Rattle.framing.specs.Streams.{reading_after}
use Rattle.framing.specs.declared.error.FrameError.{FrameError}
use Rattle.framing.specs.declared.error.FrameError.TheVariants as frame
use Rattle.protocol.specs.declared.request.MessageError.{MessageError}
use Rattle.protocol.specs.declared.request.MessageError.TheVariants as message
use Rattle.scripts.specs.declared.step.Step.{Step}
use Rattle.session.specs.Begins.{Begins}
use Rattle.session.specs.Limits.{greatest_limits}
use Rattle.session.specs.Sessions.{Answer, Beginning, Effect, Session, start}
use Rattle.session.specs.declared.config.Config.{Config}
use Rattle.session.specs.declared.config.ConfigError.TheVariants as config
use Rattle.session.specs.declared.event.Applied.{Applied}
use Rattle.session.specs.declared.event.Applied.TheVariants as applied
use Rattle.session.specs.declared.event.Event.{Event}
use Rattle.session.specs.declared.event.Event.TheVariants as event
use Rattle.session.specs.declared.event.EventError.{EventError}
use Rattle.session.specs.declared.event.LinkFault.{LinkFault}
use Rattle.session.specs.declared.event.LinkFault.TheVariants as link
use Rattle.transport.specs.Files.{KnownReads}
use Rattle.watch_events.specs.Replaying.{Begun}
use Rattle.watch_command.specs.Playing.{Done}
use Rattle.watch_command.specs.Shown.{line}
use Rattle.watch_command.specs.declared.asked.Asked.{Asked}
use Rattle.watch_command.specs.declared.asked.ReplayFault.{ReplayFault}
use Rattle.watch_command.specs.declared.asked.ReplayFault.TheVariants as fault

-- ---- what came

-- the piece that an event brings
abbrev pub piece_of : Event → List ℕ
piece_of event.Connect = []
piece_of (event.Recv piece) = piece
piece_of (event.Turn file) = []
piece_of (event.Slice moves) = []
piece_of event.Hold = []
piece_of (event.Sent count) = []
piece_of event.DropConnection = []

-- what can close a connection
abbrev pub frame_words : FrameError → List ℕ
frame_words frame.Header = codes "header line is no field"
frame_words frame.NoLength = codes "no content length"
frame_words frame.TwoLengths = codes "two content lengths"
frame_words frame.BadLength = codes "bad content length"
frame_words frame.TooLong = codes "content too long"
frame_words frame.HeaderTooLong = codes "header too long"
frame_words frame.NoMemory = codes "no memory"

abbrev pub message_words : MessageError → List ℕ
message_words message.NotJson = codes "not JSON"
message_words message.NotAMessage = codes "not a message"
message_words message.BadSeq = codes "bad sequence number"
message_words message.NoMemory = codes "no memory"

abbrev pub words_of : LinkFault → List ℕ
words_of (link.Frame fault) = frame_words fault
words_of (link.Message fault) = message_words fault

-- what closed a connection, if something did
abbrev pub closing : ℕ → Option LinkFault → List ℕ
closing n None = []
closing n (Some fault) = line n (codes " -- ") (words_of fault)

-- the bytes after the last whole frame
abbrev pub rest_of : Tail → List ℕ
rest_of (Partial rest) = rest
rest_of (Faulty fault) = []

-- what is said of them, if there are any
abbrev pub left_over : ℕ → List ℕ → List ℕ
left_over n [] = []
left_over n (byte ∷ rest) = line n (codes " -- ") (byte ∷ rest)

-- the number of a connection
abbrev pub connected : ℕ → ℕ → List ℕ
connected n connection = line n (codes " connection ") (decimal connection)

-- What an event says of what came, by what had arrived of the next frame, the piece that it brings, what closed the connection,
-- and what was answered.
abbrev pub came_by : ℕ → Tail → List ℕ → Option LinkFault → Applied → List ℕ
came_by n tail piece fault (applied.Connect connection) = connected n connection
came_by n tail piece fault applied.Recv =
    flat_map (line n (codes " -> ")) (reading_after 1048576 tail piece).bodies ++ closing n fault
came_by n tail piece fault (applied.Turn turned) = []
came_by n tail piece fault (applied.Slice sliced) = []
came_by n tail piece fault applied.Hold = []
came_by n tail piece fault applied.Sent = []
came_by n tail piece fault applied.DropConnection = left_over n (rest_of tail)

-- where it was refused, nothing came
abbrev pub came : ℕ → Tail → List ℕ → Option LinkFault → Result Applied EventError → List ℕ
came n tail piece fault (Ok done) = came_by n tail piece fault done
came n tail piece fault (Err why) = []

-- what has arrived of the next frame after it
abbrev pub tail_by : Tail → List ℕ → Applied → Tail
tail_by tail piece (applied.Connect c) = Partial []
tail_by tail piece applied.Recv = (reading_after 1048576 tail piece).tail
tail_by tail piece (applied.Turn turned) = tail
tail_by tail piece (applied.Slice sliced) = tail
tail_by tail piece applied.Hold = tail
tail_by tail piece applied.Sent = tail
tail_by tail piece applied.DropConnection = Partial []

abbrev pub tail_after : Tail → List ℕ → Result Applied EventError → Tail
tail_after tail piece (Ok done) = tail_by tail piece done
tail_after tail piece (Err why) = tail

-- ---- what was queued

-- the bytes that wait beyond those that waited before
abbrev pub queued : List ℕ → List ℕ → List ℕ
queued before after = drop (length before) after

-- what was known after the first of some, if it is said, and after the others
abbrev pub first_known : {A : Type 0} → List (List A) → List A
first_known [] = []
first_known (known ∷ others) = known

abbrev pub others_known : {A : Type 0} → List A → List A
others_known [] = []
others_known (known ∷ others) = others

-- the bodies of frames that were queued, and what was known after each of them
abbrev pub told_each : List (List ℕ) → ℕ → List (List ℕ) → List ℕ
told_each knows n [] = []
told_each knows n (body ∷ bodies) =
    line n (codes " <- ") body ++ (first_known knows ++ told_each (others_known knows) n bodies)

abbrev pub told : List (List ℕ) → ℕ → List ℕ → List ℕ
told knows n bytes = told_each knows n (reading_of 4294967295 bytes).bodies

-- ---- events, one after the other

-- a session with its past, and what has arrived of the next frame
pub record Talk : Type 0 where
  pub session : Session
  pub tail : Tail

-- before anything happened
abbrev pub first : Beginning → Talk
first from = record { session = start from; tail = Partial [] }

-- what an event says, with what was known after each message
unfoldable pub said : List (List ℕ) → ℕ → Talk → Event → List ℕ
said knows n talk e = came n talk.tail (piece_of e) (Effect talk.session e).now.fault (Answer talk.session e)
    ++ told knows n (queued talk.session.waiting (Effect talk.session e).waiting)

-- what it leaves
unfoldable pub after : Talk → Event → Talk
after talk e =
    record { session = Effect talk.session e; tail = tail_after talk.tail (piece_of e) (Answer talk.session e) }

-- what is shown of an event's lines
abbrev pub is_asked : Asked → ℕ → Bool
is_asked asked n = nat_le asked.from n && nat_le n asked.to

abbrev pub within : Asked → ℕ → List ℕ → List ℕ
within asked n lines = if is_asked asked n then lines else []

-- the lines of events, numbered from this number on, with what was known after each message of each of them
abbrev pub lines_of : List (List (List ℕ)) → Asked → ℕ → Talk → List Event → List ℕ
lines_of knows asked n talk [] = []
lines_of knows asked n talk (e ∷ events) =
    within asked n (said (first_known knows) n talk e)
    ++ lines_of (others_known knows) asked (n + 1) (after talk e) events

-- the conversation
abbrev pub conversation : List (List (List ℕ)) → Asked → Beginning → List Event → List ℕ
conversation knows asked from events = lines_of knows asked 1 (first from) events

-- ---- what is answered

-- the writer got a first part of a text
pub record HasPart (before after : Option (List ℕ)) (text : List ℕ) : Type 0 where
  pub part : List ℕ
  pub rest : List ℕ
  pub is : text ≡ part ++ rest
  pub appended : Appends before after part

-- where no facts are asked for, none is said
abbrev pub KnowsIf : {A : Type 0} → Asked → List A → Type 0
KnowsIf asked knows = asked.facts ≡ false → knows ≡ []

-- the steps were played in a session of this, and this is so of their conversation
abbrev pub Talks : Config → Asked → List Step → (files files' : KnownReads) → (List ℕ → Type 0) → Type 0
Talks c asked steps files files' P =
    Done steps files files' (λ events. Begun c greatest_limits (λ from. (knows : List (List (List ℕ)))
    × (KnowsIf asked knows × P (conversation knows asked from events))))

-- The writer got the conversation; or there is no session of this, and it got nothing; or it failed, or no memory was left, and it
-- got a first part, where memory did not end before the files were read.
abbrev pub Replays : Config → Asked → List Step → (files files' : KnownReads) → (before after : Option (List ℕ))
    → Result (Unit {0}) ReplayFault → Type 0
Replays c asked steps files files' before after (Ok done) = Talks c asked steps files files' (Appends before after)
Replays c asked steps files files' before after (Err (fault.Config why)) =
    Begins c greatest_limits (Err why) × ((why ≡ config.NoMemory → ⊥) × (after ≡ before))
Replays c asked steps files files' before after (Err fault.Write) =
    Talks c asked steps files files' (HasPart before after)
Replays c asked steps files files' before after (Err fault.NoMemory) =
    (after ≡ before) ⊎ Talks c asked steps files files' (HasPart before after)
