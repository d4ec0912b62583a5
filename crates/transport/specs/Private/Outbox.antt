-- How it changes.
use Rattle.std.specs.Prelude.{◌≡◌, ℕ, ◌+◌, ◌≤◌, List, ◌++◌, Result, Ok, Err, take, drop, length, Option}
use Rattle.std.specs.Io.KnownBytes.{Keeps, Appends}
use Rattle.replies.specs.declared.message.Message.{Message}
use Rattle.queues.specs.Writing.{frame_of}
use Rattle.transport.specs.Outbox.{Queued}

-- One message more: it has the next number, and its frame comes after what waits.
abbrev pub queued : Queued → Message → Queued
queued q m = record { count = q.count + 1; waiting = q.waiting ++ frame_of (q.count + 1) m }

-- The writer takes a prefix of what waits, and holds it after what it held. A write that fails changes nothing.
abbrev pub Sends : {E : Type 0} → Option (List ℕ) → Option (List ℕ) → Queued → Result ℕ E → Queued → Type 0
Sends held holds old (Ok n) new = (n ≤ length old.waiting) × Appends held holds (take n old.waiting)
    × (new ≡ record old { waiting = drop n old.waiting })
Sends held holds old (Err e) new = Keeps held holds × (new ≡ old)

-- A prefix of what waits was written, and the rest waits.
pub record SendsPrefix (held holds : Option (List ℕ)) (old new : Queued) : Type 0 where
  pub sent : List ℕ
  pub appended : Appends held holds sent
  pub rest : old.waiting ≡ sent ++ new.waiting
  pub count : new.count ≡ old.count
