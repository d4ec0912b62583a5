-- What a server keeps of what it read, step by step.
--
-- What a server promises is in `Servers`.
use Rattle.std.specs.Prelude.{◌≡◌, ℕ, ◌+◌, ◌⊎◌, Bool, true, false, List, [], Option, Some, None, Result, Ok, Err}
use Rattle.std.specs.Io.KnownBytes.{Consumes, IsAtEnd}
use Rattle.framing.specs.Streams.{Unframed}
use Rattle.protocol.specs.declared.request.Incoming.{Incoming}
use Rattle.protocol.specs.declared.request.MessageError.{MessageError}
use Rattle.protocol.specs.declared.request.MessageError.TheVariants.{NotJson, NotAMessage, BadSeq, NoMemory}
use Rattle.transport.specs.Heard.{Heard, HasHeard, and_gave, IsUnfinished, NeedsMore, NextFails, Unread, HasRead, and_read}
use Rattle.transport.specs.declared.server.ServerError.{ServerError}
use Rattle.transport.specs.declared.server.ServerError.TheVariants.{Frame, Message, Read, Write, TooManyReads}
use Rattle.transport.specs.declared.server.ServerError.TheVariants.{NoMemory as NoMemoryLeft, SeqSpent}

-- What is taken of the bodies that are whole.
abbrev pub Takes : Heard → Result (Option Incoming) MessageError → Unframed → Type 0
Takes heard (Ok (Some incoming)) new = HasHeard new (and_gave heard incoming)
Takes heard (Ok None) new = HasHeard new heard
Takes heard (Err NoMemory) new = HasHeard new heard
Takes heard (Err NotJson) new = HasHeard new heard × NextFails heard NotJson
Takes heard (Err NotAMessage) new = HasHeard new heard × NextFails heard NotAMessage
Takes heard (Err BadSeq) new = HasHeard new heard × NextFails heard BadSeq

-- Nothing is left to give of what was read, and the stream may still continue.
abbrev pub IsEmptied : Unread → Type 0
IsEmptied unread = (unread.pending ≡ []) × (unread.unframer.waiting ≡ []) × IsUnfinished unread.unframer.tail

-- which answer that is, for what was taken and whether the stream has a fault
abbrev pub polled_of : Result (Option Incoming) MessageError → Bool → Result (Option Incoming) ServerError
polled_of (Ok (Some incoming)) faulty = Ok (Some incoming)
polled_of (Ok None) true = Err Frame
polled_of (Ok None) false = Ok None
polled_of (Err NotJson) faulty = Err Message
polled_of (Err NotAMessage) faulty = Err Message
polled_of (Err BadSeq) faulty = Err Message
polled_of (Err NoMemory) faulty = Err NoMemoryLeft

-- What a read gives is pending.
abbrev pub Reads : Option (List ℕ) → Option (List ℕ) → Heard → Result Bool ServerError → Unread → Type 0
Reads left left' heard (Ok true) new = (piece : List ℕ) × Consumes left left' piece × HasRead new (and_read heard piece)
Reads left left' heard (Ok false) new = Consumes left left' [] × IsAtEnd left' × HasRead new heard
Reads left left' heard (Err Frame) new = ⊥
Reads left left' heard (Err Message) new = ⊥
Reads left left' heard (Err Read) new = Consumes left left' [] × HasRead new heard
Reads left left' heard (Err Write) new = ⊥
Reads left left' heard (Err TooManyReads) new = ⊥
Reads left left' heard (Err NoMemoryLeft) new = Consumes left left' [] × HasRead new heard
Reads left left' heard (Err SeqSpent) new = ⊥

-- how many reads there were, after that many: one more, except where no memory was left for the piece
abbrev pub reads_after : Result Bool ServerError → ℕ → ℕ
reads_after (Ok more) n = n + 1
reads_after (Err Frame) n = n + 1
reads_after (Err Message) n = n + 1
reads_after (Err Read) n = n + 1
reads_after (Err Write) n = n + 1
reads_after (Err TooManyReads) n = n + 1
reads_after (Err NoMemoryLeft) n = n
reads_after (Err SeqSpent) n = n + 1

-- Some bytes are read, by this many reads, and no message is given yet.
pub record Listens (left_before left : Option (List ℕ)) (heard : Heard) (reads : ℕ) (new : Unread) : Type 0 where
  pub read : List ℕ
  pub consumed : Consumes left_before left read
  pub needed : ((reads ≡ 0) × (read ≡ [])) ⊎ NeedsMore heard
  pub has_read : HasRead new (and_read heard read)
