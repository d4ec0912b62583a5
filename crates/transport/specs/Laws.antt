-- What holds of a server after any list of its calls.
--
-- A server is seen here as its lasting error, what it has queued, and what its writer holds. A call is given with what
-- it answered.
use Rattle.std.specs.Prelude.{◌≡◌, ℕ, ◌+◌, List, [], ◌∷◌, ◌++◌, length, Option, Some, None, IfSome, Result, Ok, Err}
use Rattle.std.specs.Prelude.{◌⊎◌}
use Rattle.std.specs.Io.KnownBytes.{Appends}
use Rattle.protocol.specs.declared.request.Incoming.{Incoming}
use Rattle.replies.specs.declared.message.Message.{Message}
use Rattle.session.specs.Prefixes.{IsPrefixOf}
use Rattle.queues.specs.Writing.{frame_of}
use Rattle.transport.specs.Outbox.{Queued}
use Rattle.transport.specs.Servers.{Writes, lasting}
use Rattle.transport.specs.declared.server.ServerError.{ServerError}
use Rattle.transport.specs.declared.server.ServerError.TheVariants.{Write}

-- a server: its lasting error, what it has queued, and what its writer holds
pub record Served : Type 0 where
  pub fault : Option ServerError
  pub outbox : Queued
  pub held : Option (List ℕ)

-- a call, with its answer
pub data Call : Type 0 where
  Poll : Result (Option Incoming) ServerError → Call
  Say : Message → Result (Unit {0}) ServerError → Call

-- What a poll leaves. After a lasting error it answers that; else it writes nothing.
pub record Polled (old : Served) (result : Result (Option Incoming) ServerError) (new : Served) : Type 0 where
  pub stays : IfSome old.fault (λ e. (result ≡ Err e) × (new ≡ old))
  pub fault : old.fault ≡ None → new.fault ≡ lasting result
  pub outbox : new.outbox ≡ old.outbox
  pub held : new.held ≡ old.held

-- What saying a message leaves. After a lasting error it is answered that; else it is written.
pub record Said (old : Served) (message : Message) (result : Result (Unit {0}) ServerError) (new : Served)
    : Type 0 where
  pub stays : IfSome old.fault (λ e. (result ≡ Err e) × (new ≡ old))
  pub writes : old.fault ≡ None → old.outbox.waiting ≡ []
      → Writes old.held new.held old.outbox message result new.outbox new.fault

-- what a call leaves
abbrev pub Did : Served → Call → Served → Type 0
Did old (Poll result) new = Polled old result new
Did old (Say message result) new = Said old message result new

-- what calls leave, one after the other
abbrev pub DidAll : Served → List Call → Served → Type 0
DidAll old [] new = new ≡ old
DidAll old (call ∷ calls) new = (mid : Served) × Did old call mid × DidAll mid calls new

-- the messages that were said with success
abbrev pub written : List Call → List Message
written [] = []
written (Poll result ∷ calls) = written calls
written (Say message (Ok x) ∷ calls) = message ∷ written calls
written (Say message (Err e) ∷ calls) = written calls

-- the frames of messages, with the numbers from this one on
abbrev pub frames_from : ℕ → List Message → List ℕ
frames_from n [] = []
frames_from n (message ∷ messages) = frame_of n message ++ frames_from (n + 1) messages

-- a part of the next frame, where the writer failed in it, and else nothing
abbrev pub IsPartOfNext : ℕ → Option ServerError → List ℕ → Type 0
IsPartOfNext n fault part = (part ≡ [])
    ⊎ ((fault ≡ Some Write) × ((message : Message) × IsPrefixOf part (frame_of n message)))

-- What calls wrote, where `n` messages were written before.
pub record Wrote (n : ℕ) (calls : List Call) (held_before held : Option (List ℕ)) (fault : Option ServerError)
    : Type 0 where
  pub part : List ℕ
  pub appended : Appends held_before held (frames_from (n + 1) (written calls) ++ part)
  pub rest : IsPartOfNext (n + length (written calls) + 1) fault part

-- Whatever calls are made of a server that begins after `written` messages, its writer gets the frames of the messages that
-- succeeded, with the numbers that follow, one after the other, and after a fault of the writer a part of one more. Before
-- a new server there were none: the first has number 1.
abbrev pub MessagesAreFramedInOrder : Type 0
MessagesAreFramedInOrder = (written : ℕ) (held : Option (List ℕ)) (calls : List Call) (last : Served)
    → DidAll (record { fault = None; outbox = record { count = written; waiting = [] }; held = held }) calls last
    → Wrote written calls held last.held last.fault
