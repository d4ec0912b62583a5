-- What a server gives of what it reads, and what it writes.
--
-- A server is asked for the next request, and reads until it has one, and no further. Whatever pieces the reader gives, and however
-- often the server is asked, it gives the messages of the stream one after the other, and none twice. Where it finds no
-- memory it has lost nothing. A fault of the stream, or a body that is no message, comes after all the messages before
-- it, and stays.
use Rattle.std.specs.Prelude.{◌≡◌, refl, ℕ, ◌+◌, ◌≤◌, List, [], ◌++◌, ◌⊎◌, Option, Some, None, Result, Ok, Err}
use Rattle.std.specs.Io.KnownBytes.{Consumes, Appends, IsAtEnd}
use Rattle.framing.specs.Reading.{reading_of}
use Rattle.protocol.specs.declared.request.Incoming.{Incoming}
use Rattle.session.specs.declared.TheConstants.{BODY_LIMIT}
use Rattle.transport.specs.Heard.{Heard, and_gave, Unread, HasRead, and_read, AllGiven, IsUnfinished, NeedsMore, IsNoMessage}
use Rattle.replies.specs.declared.message.Message.{Message as AMessage}
use Rattle.transport.specs.Outbox.{Queued}
use Rattle.queues.specs.Writing.{frame_of}
use Rattle.transport.specs.declared.server.TheConstants.{MOST_READS}
use Rattle.transport.specs.declared.server.ServerError.{ServerError}
use Rattle.transport.specs.declared.server.ServerError.TheVariants.{Frame, Message, Read, Write, TooManyReads}
use Rattle.transport.specs.declared.server.ServerError.TheVariants.{NoMemory as NoMemoryLeft, SeqSpent}

-- the most reads that one call makes
most_reads : MOST_READS ≡ 2097152
most_reads = refl

-- What a server answers, for what it has heard.
abbrev pub Polled : Heard → Result (Option Incoming) ServerError → Unread → Type 0
Polled heard (Ok (Some incoming)) new = HasRead new (and_gave heard incoming)
Polled heard (Ok None) new = HasRead new heard × NeedsMore heard
Polled heard (Err Frame) new = HasRead new heard × AllGiven heard
    × (IsUnfinished (reading_of BODY_LIMIT heard.read).tail → ⊥)
Polled heard (Err Message) new = HasRead new heard × IsNoMessage heard
Polled heard (Err Read) new = ⊥
Polled heard (Err Write) new = ⊥
Polled heard (Err TooManyReads) new = ⊥
Polled heard (Err NoMemoryLeft) new = HasRead new heard
Polled heard (Err SeqSpent) new = ⊥

-- What polling gives, where left is what the reader still has.
abbrev pub Gave : Option (List ℕ) → Heard → Result (Option Incoming) ServerError → Unread → Type 0
Gave left heard (Ok (Some incoming)) new = Polled heard (Ok (Some incoming)) new
Gave left heard (Ok None) new = Polled heard (Ok None) new × IsAtEnd left
Gave left heard (Err Frame) new = Polled heard (Err Frame) new
Gave left heard (Err Message) new = Polled heard (Err Message) new
Gave left heard (Err Read) new = HasRead new heard × NeedsMore heard
Gave left heard (Err Write) new = ⊥
Gave left heard (Err TooManyReads) new = HasRead new heard × NeedsMore heard
Gave left heard (Err NoMemoryLeft) new = HasRead new heard
Gave left heard (Err SeqSpent) new = ⊥

-- Some bytes are read, by this many reads, and then what was heard before and with them decides. There is no read while a
-- message of what was heard is left to give, nor after a fault of the stream.
pub record Polls (left_before left : Option (List ℕ)) (heard : Heard) (result : Result (Option Incoming) ServerError)
    (reads : ℕ) (new : Unread) : Type 0 where
  pub read : List ℕ
  pub consumed : Consumes left_before left read
  pub needed : ((reads ≡ 0) × (read ≡ [])) ⊎ NeedsMore heard
  pub gave : Gave left (and_read heard read) result new

-- How often a poll read: 2,097,152 times at most, and exactly that often where it gave up.
pub record ReadSoOften (result : Result (Option Incoming) ServerError) (reads : ℕ) : Type 0 where
  pub few : reads ≤ 2097152
  pub all : result ≡ Err TooManyReads → reads ≡ 2097152

-- the error that a server answers from then on
abbrev pub lasting : Result (Option Incoming) ServerError → Option ServerError
lasting (Ok polled) = None
lasting (Err Frame) = Some Frame
lasting (Err Message) = Some Message
lasting (Err Read) = Some Read
lasting (Err Write) = Some Write
lasting (Err TooManyReads) = None
lasting (Err NoMemoryLeft) = None
lasting (Err SeqSpent) = None

-- ---- writing

-- What a message comes to: its frame, with the next number, is written, or nothing of it, or after a fault a part of
-- it: then it is counted, and the rest of it still waits.
abbrev pub Writes : Option (List ℕ) → Option (List ℕ) → Queued → AMessage → Result (Unit {0}) ServerError → Queued
    → Option ServerError → Type 0
Writes held holds old m (Ok x) new fault = Appends held holds (frame_of (old.count + 1) m)
    × (new ≡ record { count = old.count + 1; waiting = [] }) × (fault ≡ None)
Writes held holds old m (Err Write) new fault = (sent : List ℕ) × Appends held holds sent
    × (frame_of (old.count + 1) m ≡ sent ++ new.waiting) × (new.count ≡ old.count + 1)
    × (fault ≡ Some Write)
Writes held holds old m (Err NoMemoryLeft) new fault = Appends held holds [] × (new ≡ old) × (fault ≡ None)
Writes held holds old m (Err SeqSpent) new fault = Appends held holds [] × (new ≡ old) × (fault ≡ None)
Writes held holds old m (Err Frame) new fault = ⊥
Writes held holds old m (Err Message) new fault = ⊥
Writes held holds old m (Err Read) new fault = ⊥
Writes held holds old m (Err TooManyReads) new fault = ⊥
