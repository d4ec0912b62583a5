-- For private clauses alone, beside `Replaying`.
use Rattle.std.specs.Prelude.{◌≡◌, ℕ, Bool, true, false, ◌<◌, ◌≤◌, List, [], ◌∷◌, ◌++◌, map, length, Result, Ok, Err, take, ⊤}
use Rattle.framing.specs.Reading.{reading_of}
use Rattle.mirror.specs.Kept.{Kept}
use Rattle.mirror.specs.Streams.{StandsFor, after, nothing_past, with_request, Past}
use Rattle.mirror.specs.Streams.Input.{Sent, Fed}
use Rattle.protocol.specs.declared.request.Incoming.{Incoming}
use Rattle.protocol.specs.declared.request.Incoming.TheVariants.{Request as IsRequest, Bad as IsBad, Ignored}
use Rattle.protocol.specs.declared.request.MessageError.{MessageError}
use Rattle.protocol.specs.declared.request.Request.{Request as ARequest}
use Rattle.queues.specs.Arrivals.{asks_of}
use Rattle.session.specs.Begins.{AreRight, Begins}
use Rattle.session.specs.Sessions.{After}
use Rattle.session.specs.declared.config.Config.{Config}
use Rattle.session.specs.declared.config.ConfigError.{ConfigError}
use Rattle.session.specs.declared.config.ConfigError.TheVariants as config
use Rattle.session.specs.declared.event.Event.{Event}
use Rattle.session.specs.declared.limits.Limits.{Limits}
use Rattle.session_laws.specs.Editors.{requests_in}
use Rattle.watch_events.specs.Private.Tracking.{Tracked, Tracks, is_made}
use Rattle.watch_events.specs.declared.watching.WatchError.{WatchError}
use Rattle.watch_events.specs.declared.watching.WatchError.TheVariants as watch
use Rattle.watch_events.specs.declared.watching.Watched.{Watched}
use Rattle.watch_events.specs.Replaying.{Begun}

-- why nothing is watched where there is no session
abbrev pub no_session : ConfigError → WatchError
no_session config.NoMemory = watch.NoMemory
no_session config.BadMemorySize = watch.Config config.BadMemorySize
no_session config.BadLimit = watch.Config config.BadLimit
no_session (config.Assembly error) = watch.Config (config.Assembly error)

-- the events were done, or there is no session
abbrev pub Runs : Config → Limits → List Event → ℕ → ℕ → Result Tracked WatchError → Type 0
Runs c limits events connection count (Ok t) =
    Begun c limits (λ from. Tracks t (After from events)) × (t.connection ≡ connection) × (t.count ≡ count)
Runs c limits events connection count (Err (watch.Config error)) = Begins c limits (Err error) × (error ≡ config.NoMemory → ⊥)
Runs c limits events connection count (Err watch.NoSuchConnection) = ⊥
Runs c limits events connection count (Err watch.CutTooLong) = ⊥
Runs c limits events connection count (Err watch.NoMemory) = AreRight c limits

-- the requests in bytes that came from an editor
abbrev pub requests_of : List ℕ → List ARequest
requests_of accepted = requests_in (asks_of (reading_of 1048576 accepted).bodies)

-- a mirror to which nothing was told was told them
abbrev pub TellsAll : Kept → List ℕ → Kept → Type 0
TellsAll old accepted new = StandsFor old nothing_past → StandsFor new (after (map Sent (requests_of accepted)))

-- a mirror was told a request, if it is one
abbrev pub TellsOne : Incoming → Kept → Kept → Type 0
TellsOne (IsRequest request) old new = (past : Past) → StandsFor old past → StandsFor new (with_request past request)
TellsOne (IsBad seq command refusal) old new = new ≡ old
TellsOne Ignored old new = new ≡ old

-- what a mirror is told of a body: it is a message, or none
abbrev pub TellsBody : Result Incoming MessageError → Bool → Kept → Kept → Type 0
TellsBody (Ok incoming) is_message old new = (is_message ≡ true) × TellsOne incoming old new
TellsBody (Err why) is_message old new = (is_message ≡ false) × (new ≡ old)

-- it was told the requests, and fed the bytes
abbrev pub IsTold : List ℕ → List ℕ → Kept → Type 0
IsTold accepted got mirror = StandsFor mirror (after (map Sent (requests_of accepted) ++ Fed got ∷ []))

-- the mirror of the editor on the connection that was watched, or why there is none
abbrev pub Mirrors : Tracked → ℕ → Result Kept WatchError → Type 0
Mirrors t count (Ok mirror) = (is_made t ≡ true) × ((count ≤ length t.queued) × IsTold t.accepted (take count t.queued) mirror)
Mirrors t count (Err watch.NoSuchConnection) = is_made t ≡ false
Mirrors t count (Err watch.CutTooLong) = (is_made t ≡ true) × (length t.queued < count)
Mirrors t count (Err watch.NoMemory) = ⊤
Mirrors t count (Err (watch.Config error)) = ⊥

-- how many bytes were queued for that connection
abbrev pub CountsQueued : Tracked → Result ℕ WatchError → Type 0
CountsQueued t (Ok count) = (is_made t ≡ true) × (count ≡ length t.queued)
CountsQueued t (Err watch.NoSuchConnection) = is_made t ≡ false
CountsQueued t (Err watch.CutTooLong) = ⊥
CountsQueued t (Err watch.NoMemory) = ⊥
CountsQueued t (Err (watch.Config error)) = ⊥

-- what is shown of that connection
abbrev pub Shows : Tracked → ℕ → Result Watched WatchError → Type 0
Shows t count (Ok watched) = Mirrors t count (Ok watched.mirror) × (watched.snapshot ≡ t.snapshot)
Shows t count (Err error) = Mirrors t count (Err error)
