-- What an editor knows, beside what could be seen: a list of events is done in a new session, and one connection is watched.
--
-- A mirror is told all requests that were accepted on it, and is fed the first bytes that were queued for it, up to a number. So it is a
-- mirror as the headline has it, and can be told and fed on: it found no fault, and what it knows was so when the last message was queued
-- that lies wholly in these bytes. What could be seen then stands beside it, with the path of the program's file; where no message is
-- whole, there is neither.
use Rattle.std.specs.Prelude.{◌≡◌, ℕ, ◌<◌, ◌≤◌, List, length, Option, Some, None, option_map, Result, Ok, Err, take}
use Rattle.facts.specs.Facts.{Facts, nothing_known}
use Rattle.mirror.specs.Kept.{facts_of}
use Rattle.mirror.specs.Streams.{StandsFor, after, stream_fault}
use Rattle.session.specs.Begins.{AreRight, Begins, beginning_of}
use Rattle.session.specs.Config.{HasImage}
use Rattle.session.specs.Sessions.{After, Beginning, Session, bytes_of, life_of}
use Rattle.snapshots.specs.Snapshots.{Captured, path_of, seen_of}
use Rattle.session.specs.declared.config.Config.{Config}
use Rattle.session.specs.declared.config.ConfigError.TheVariants as config
use Rattle.session.specs.declared.event.Event.{Event}
use Rattle.session.specs.declared.limits.Limits.{Limits}
use Rattle.session_laws.specs.Concluding.{last_seen, told_within}
use Rattle.session_laws.specs.Editors.{told_first}
use Rattle.session_laws.specs.Headline.{known_within}
use Rattle.session_laws.specs.Holding.{Holds}
use Rattle.session_laws.specs.News.{Sight, sight}
use Rattle.watch_events.specs.declared.watching.WatchError.{WatchError}
use Rattle.watch_events.specs.declared.watching.WatchError.TheVariants as watch
use Rattle.watch_events.specs.declared.watching.Watched.{Watched}

-- A session of these begins, and so it is of what it begins with.
pub record Begun (config : Config) (limits : Limits) (P : Beginning → Type 0) : Type 0 where
  pub right : AreRight config limits
  pub image : HasImage config.program config.memory_size
  pub so : P (beginning_of config limits right image)

-- a connection of this number was made
abbrev pub IsMade : Session → ℕ → Type 0
IsMade s c = (1 ≤ c) × (c ≤ s.now.connections)

-- how many bytes were queued for it
abbrev pub queued_for : ℕ → Session → ℕ
queued_for c s = length (bytes_of (life_of c s))

-- all that is known holds of what could be seen
abbrev pub HoldsOf : Facts → Option (Option Captured) → Type 0
HoldsOf known None = known ≡ nothing_known
HoldsOf known (Some seen) = Holds known (seen_of seen)

-- what was seen, as facts, and the path of the program's file
abbrev pub sight_in : Option Captured → Sight
sight_in taken = record { facts = seen_of taken; path = path_of taken }

-- What an editor knows by the first `count` bytes of a connection, and what could be seen when the last message was queued that
-- lies wholly in them: the facts, and the path.
pub record IsWatched (s : Session) (c count : ℕ) (watched : Watched) : Type 0 where
  pub made : IsMade s c
  pub within : count ≤ queued_for c s
  pub mirror : StandsFor watched.mirror (after (told_first (life_of c s) count))
  pub readable : stream_fault (take count (bytes_of (life_of c s))) ≡ None
  pub knows : facts_of watched.mirror.known ≡ known_within count (life_of c s)
  pub seen : option_map sight_in watched.snapshot ≡ option_map sight (last_seen None (told_within count (life_of c s).said))
  pub holds : HoldsOf (facts_of watched.mirror.known) watched.snapshot

-- `watch` answers that, or the first error that applies.
abbrev pub Watches : Config → Limits → List Event → ℕ → ℕ → Result Watched WatchError → Type 0
Watches c limits events connection count (Ok watched) = Begun c limits (λ from. IsWatched (After from events) connection count watched)
Watches c limits events connection count (Err (watch.Config error)) = Begins c limits (Err error) × (error ≡ config.NoMemory → ⊥)
Watches c limits events connection count (Err watch.NoSuchConnection) = Begun c limits (λ from. IsMade (After from events) connection → ⊥)
Watches c limits events connection count (Err watch.CutTooLong) =
    Begun c limits (λ from. IsMade (After from events) connection × (queued_for connection (After from events) < count))
Watches c limits events connection count (Err watch.NoMemory) = AreRight c limits

-- `queued` answers the greatest count.
abbrev pub Queues : Config → Limits → List Event → ℕ → Result ℕ WatchError → Type 0
Queues c limits events connection (Ok count) =
    Begun c limits (λ from. IsMade (After from events) connection × (count ≡ queued_for connection (After from events)))
Queues c limits events connection (Err (watch.Config error)) = Begins c limits (Err error) × (error ≡ config.NoMemory → ⊥)
Queues c limits events connection (Err watch.NoSuchConnection) = Begun c limits (λ from. IsMade (After from events) connection → ⊥)
Queues c limits events connection (Err watch.CutTooLong) = ⊥
Queues c limits events connection (Err watch.NoMemory) = AreRight c limits
