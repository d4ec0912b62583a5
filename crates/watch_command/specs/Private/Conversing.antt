-- For private clauses alone, beside `Conversing`.
use Rattle.std.specs.Prelude.{◌≡◌, ◌⊎◌, ℕ, ◌+◌, Bool, true, false, List, [], ◌++◌, drop, Option, Some, None, is_some, Result, Ok, Err, codes}
use Rattle.std.specs.Io.KnownBytes.{Appends}
use Rattle.framing.specs.Reading.{Tail, reading_of}
use Rattle.framing.specs.Reading.Tail.{Partial}
use Rattle.framing.specs.Streams.{Unframed, fault_of}
use Rattle.scripts.specs.declared.step.Step.{Step}
use Rattle.session.specs.Effects.{ran_out}
use Rattle.session.specs.Kept.{Kept, Stands}
use Rattle.session.specs.Sessions.{Session}
use Rattle.session.specs.declared.config.ConfigError.{ConfigError}
use Rattle.session.specs.declared.config.ConfigError.TheVariants as config
use Rattle.session.specs.declared.event.Applied.{Applied}
use Rattle.session.specs.declared.event.Applied.TheVariants as applied
use Rattle.session.specs.declared.event.Event.{Event}
use Rattle.session.specs.declared.event.EventError.{EventError}
use Rattle.session.specs.declared.event.EventError.TheVariants as error
use Rattle.session.specs.declared.event.LinkFault.{LinkFault}
use Rattle.transport.specs.Files.{KnownReads}
use Rattle.watch_command.specs.Playing.{Done}
use Rattle.watch_command.specs.Shown.{line}
use Rattle.watch_command.specs.declared.asked.Asked.{Asked}
use Rattle.watch_command.specs.declared.asked.ReplayFault.{ReplayFault}
use Rattle.watch_command.specs.declared.asked.ReplayFault.TheVariants as fault
use Rattle.watch_command.specs.declared.asked.Unwritten.{Unwritten}
use Rattle.watch_command.specs.declared.asked.Unwritten.TheVariants as unwritten
use Rattle.watch_command.specs.Conversing.{came, tail_after, told_each, told, Talk, said, after, within, lines_of, HasPart, KnowsIf}

-- whether no memory was left
abbrev pub has_run_out : Applied → Bool
has_run_out done = is_some (ran_out done)

abbrev pub lacks_memory : Result Applied EventError → Bool
lacks_memory (Ok done) = has_run_out done
lacks_memory (Err error.NotConnected) = false
lacks_memory (Err error.AlreadyConnected) = false
lacks_memory (Err error.Busy) = false
lacks_memory (Err error.SentTooMuch) = false
lacks_memory (Err error.PieceTooLong) = false
lacks_memory (Err error.Closing) = false
lacks_memory (Err error.NoMemory) = true
lacks_memory (Err error.Spent) = false

-- why there is no session
abbrev pub no_session : ConfigError → ReplayFault
no_session config.NoMemory = fault.NoMemory
no_session config.BadMemorySize = fault.Config config.BadMemorySize
no_session config.BadLimit = fault.Config config.BadLimit
no_session (config.Assembly error) = fault.Config (config.Assembly error)

-- what came on a connection, and what takes it apart
pub record Stream : Type 0 where
  pub bytes : List ℕ
  pub unframer : Unframed

-- all bodies that came were lent, and what has arrived of the next frame is known
abbrev pub IsReady : Stream → Type 0
IsReady stream = (stream.unframer.limit ≡ 1048576) × ((stream.unframer.waiting ≡ [])
    × ((reading_of 1048576 stream.bytes).tail ≡ stream.unframer.tail))

-- the bodies that waited were lent, and nothing else changes
abbrev pub IsEmptied : (old new : Unframed) → Type 0
IsEmptied old new = (new.limit ≡ old.limit) × ((new.waiting ≡ []) × (new.tail ≡ old.tail))

-- what came by an event was said, and the stream is ready for what comes
abbrev pub SaysWhatCame : ℕ → List ℕ → Option LinkFault → Result Applied EventError → (old new : Stream)
    → (text text' : List ℕ) → Type 0
SaysWhatCame n piece fault answer old new text text' =
    IsReady new × ((new.unframer.tail ≡ tail_after old.unframer.tail piece answer)
    × (text' ≡ text ++ came n old.unframer.tail piece fault answer))

-- bodies were said, and what was known after each of them
abbrev pub SaysOne : ℕ → List ℕ → (text text' : List ℕ) → Type 0
SaysOne n body text text' = (known : List ℕ) × (text' ≡ (text ++ line n (codes " <- ") body) ++ known)

abbrev pub SaysEach : ℕ → List (List ℕ) → (text text' : List ℕ) → Type 0
SaysEach n bodies text text' = (knows : List (List ℕ)) × (text' ≡ text ++ told_each knows n bodies)

-- messages were said, and what was known after each of them, where facts are asked for
abbrev pub SaysTold : Asked → ℕ → List ℕ → (text text' : List ℕ) → Type 0
SaysTold asked n bytes text text' =
    (knows : List (List ℕ)) × (KnowsIf asked knows × (text' ≡ text ++ told knows n bytes))

-- the same of a piece that was taken
abbrev pub SaysPiece : ℕ → List ℕ → Option LinkFault → (old new : Stream) → (text text' : List ℕ) → Type 0
SaysPiece n piece fault old new text text' = SaysWhatCame n piece fault (Ok applied.Recv) old new text text'

-- these bytes are frames of the bodies and what is left, which can begin a frame
abbrev pub HasLeft : List ℕ → List (List ℕ) → Tail → Type 0
HasLeft bytes bodies tail =
    (reading_of 1048576 bytes ≡ record { bodies = bodies; tail = tail }) × (fault_of tail ≡ None)

-- the bytes after a frame, by the length of its body and where its header part ends
abbrev pub after_frame : List ℕ → ℕ → Option ℕ → List ℕ
after_frame bytes count None = []
after_frame bytes count (Some size) = drop (size + count) bytes

-- an event was done, and this is so of what it says, with what was known, in each session that was represented
pub record Does (knows : List (List ℕ)) (n : ℕ) (e : Event) (old new : Kept) (stream stream' : Stream) (P : List ℕ → Type 0) : Type 0 where
  pub ready : IsReady stream'
  pub each : (s : Session) → Stands old s → let talk : Talk = record { session = s; tail = stream.unframer.tail } in
      Stands new (after talk e).session × ((stream'.unframer.tail ≡ (after talk e).tail) × P (said knows n talk e))

-- an event was done, and this is so of what it says, with what was known
abbrev pub DoesOne : Asked → ℕ → Event → (old new : Kept) → (stream stream' : Stream) → (List ℕ → Type 0) → Type 0
DoesOne asked n e old new stream stream' P = (knows : List (List ℕ)) × (KnowsIf asked knows × Does knows n e old new stream stream' P)

-- a text was written; or a first part of it, where the writer failed or no memory was left
abbrev pub Writes : List ℕ → (before after : Option (List ℕ)) → Result (Unit {0}) Unwritten → Type 0
Writes text before after (Ok done) = Appends before after text
Writes text before after (Err why) = HasPart before after text

-- what an event says was written, as far as it was asked for
abbrev pub Shows : Asked → ℕ → Event → (old new : Kept) → (stream stream' : Stream) → (before after : Option (List ℕ))
    → Result (Unit {0}) Unwritten → Type 0
Shows asked n e old new stream stream' before after (Ok done) =
    DoesOne asked n e old new stream stream' (λ lines. Appends before after (within asked n lines))
Shows asked n e old new stream stream' before after (Err why) = (knows : List (List ℕ)) × (KnowsIf asked knows
    × ((s : Session) → Stands old s
    → HasPart before after (within asked n (said knows n (record { session = s; tail = stream.unframer.tail }) e))))

-- this is so of what events say, in each session that is represented
abbrev pub EachSays : Asked → Kept → Tail → (List ℕ → Type 0) → List Event → Type 0
EachSays asked old tail P events = (s : Session) → Stands old s → (knows : List (List (List ℕ)))
    × (KnowsIf asked knows × P (lines_of knows asked 1 (record { session = s; tail = tail }) events))

-- what events say was written
abbrev pub ShowsAll : Asked → List Event → Kept → Stream → (before after : Option (List ℕ))
    → Result (Unit {0}) Unwritten → Type 0
ShowsAll asked events old stream before after result =
    EachSays asked old stream.unframer.tail (λ text. Writes text before after result) events

-- the steps were played, and what their events say was written, where memory did not end before
abbrev pub ReplaysIn : Kept → Asked → List Step → (files files' : KnownReads) → (before after : Option (List ℕ))
    → Result (Unit {0}) Unwritten → Type 0
ReplaysIn old asked steps files files' before after (Ok done) =
    Done steps files files' (EachSays asked old (Partial []) (Appends before after))
ReplaysIn old asked steps files files' before after (Err unwritten.Write) =
    Done steps files files' (EachSays asked old (Partial []) (HasPart before after))
ReplaysIn old asked steps files files' before after (Err unwritten.NoMemory) =
    (after ≡ before) ⊎ Done steps files files' (EachSays asked old (Partial []) (HasPart before after))

-- what is answered then
abbrev pub answered : Result (Unit {0}) Unwritten → Result (Unit {0}) ReplayFault
answered (Ok done) = Ok done
answered (Err unwritten.Write) = Err fault.Write
answered (Err unwritten.NoMemory) = Err fault.NoMemory
