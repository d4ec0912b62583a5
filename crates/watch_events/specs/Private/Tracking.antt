-- What is kept of a connection while a list of events is done.
use Rattle.std.specs.Prelude.{◌≡◌, ◌≤◌, ◌-◌, ◌==◌, ◌&&◌, nat_le, ℕ, Bool, true, false, List, [], ◌++◌, ◌∷◌, length, take, Option, Some, None, option_map, ⊤, Result, Ok, Err}
use Rattle.mirror.specs.Streams.{messages_so_far, stream_fault}
use Rattle.protocol.specs.declared.request.MessageError.{MessageError}
use Rattle.replies.specs.declared.message.Message.{Message}
use Rattle.session.specs.Acts.{Now}
use Rattle.session.specs.Kept.{Kept, Stands}
use Rattle.session.specs.Effects.{ended_as, sliced}
use Rattle.session.specs.Reached.{Happened, Reached}
use Rattle.session.specs.Sessions.{Beginning, Effect, Session, bytes_of, histories, life_of, snapshot_of, up_to_fault}
use Rattle.snapshots.specs.Snapshots.{Captured, IsTaken, as_running}
use Rattle.session.specs.declared.event.SliceEnd.{SliceEnd}
use Rattle.session.specs.declared.event.Event.{Event}
use Rattle.session.specs.declared.event.Event.TheVariants.{Slice}
use Rattle.session_laws.specs.Concluding.{last_seen, told_within}
use Rattle.session_laws.specs.News.{IsFollowed, says_output, sight}
use Rattle.session_laws.specs.Messages.{HasPath}
use Rattle.watch_events.specs.Replaying.{sight_in}

-- a session, and the connection that is watched: which it is, and how many of its bytes; how many connections were made;
-- the pieces that were accepted on it, and the bytes that were queued for it; and what could be seen when the last
-- message was queued that lies wholly in the bytes that are watched
pub record Tracked : Type 0 where
  pub session : Kept
  pub connection : ℕ
  pub count : ℕ
  pub current : ℕ
  pub accepted : List ℕ
  pub queued : List ℕ
  pub snapshot : Option (Option Captured)

-- it is reached from what a session begins with whose program has a path that is short enough
pub record IsReached (s : Session) : Type 0 where
  pub from : Beginning
  pub path : HasPath from
  pub happened : List Happened
  pub is : s ≡ Reached from happened

-- it is so of this session
pub record Tracks (t : Tracked) (s : Session) : Type 0 where
  pub stands : Stands t.session s
  pub current : t.current ≡ s.now.connections
  pub accepted : (life_of t.connection s).accepted ≡ up_to_fault [] t.accepted
  pub queued : t.queued ≡ bytes_of (life_of t.connection s)
  pub snapshot : option_map sight_in t.snapshot ≡ option_map sight (last_seen None (told_within t.count (life_of t.connection s).said))

-- before anything happened
abbrev pub untouched : Kept → ℕ → ℕ → Tracked
untouched session connection count = record {
  session = session;
  connection = connection;
  count = count;
  current = 0;
  accepted = [];
  queued = [];
  snapshot = None;
}

-- whether the connection was made that is watched
abbrev pub is_made : Tracked → Bool
is_made t = nat_le 1 t.connection && nat_le t.connection t.current

-- whether it is the last that was made
abbrev pub is_current : Tracked → Bool
is_current t = t.current == t.connection

-- a piece is kept, where it came on the connection that is watched
abbrev pub with_piece : Bool → List ℕ → Tracked → Tracked
with_piece true piece t = record t { accepted = t.accepted ++ piece }
with_piece false piece t = t

-- where memory was left, it is so after an event
abbrev pub Keeps : {E : Type 0} → Event → Tracked → Result (Unit {0}) E → Tracked → Type 0
Keeps e old (Ok done) new = (s : Session) → IsReached s → Tracks old s → Tracks new (Effect s e)
Keeps e old (Err why) new = ⊤

-- one connection is watched before and after, and as many of its bytes
abbrev pub SameWatched : Tracked → Tracked → Type 0
SameWatched old new = (new.connection ≡ old.connection) × (new.count ≡ old.count)

-- where memory was left, it is so after a slice that is seen at its end as it was when each message was queued, and the answer is how it
-- ended
abbrev pub Steps : {E : Type 0} → ℕ → Tracked → Result SliceEnd E → Tracked → Type 0
Steps n old (Ok ending) new = (s : Session) → IsReached s → Tracks old s → IsFollowed s (Effect s (Slice n))
    → Tracks new (Effect s (Slice n)) × (ended_as (sliced histories n s).ending ≡ ending)
Steps n old (Err why) new = ⊤

-- ---- the messages that an event queued

-- the last of some, or what was before them
abbrev pub last_from : {A : Type 0} → Option A → List A → Option A
last_from before [] = before
last_from before (x ∷ xs) = last_from (Some x) xs

-- where a body is a message, this is whether it says what the program printed, or what a logpoint says
abbrev pub SaidBy : Result Message MessageError → Bool → Type 0
SaidBy (Ok m) says = says ≡ says_output m
SaidBy (Err why) says = ⊤

-- what could be seen then, by what was taken after it
abbrev pub taken_at : Bool → Option Captured → Option Captured
taken_at true taken = as_running taken
taken_at false taken = taken

-- what is kept after the last of these messages, if there is one
abbrev pub SeenAfter : Option Message → Now → Option (Option Captured) → Option (Option Captured) → Type 0
SeenAfter None now old new = new ≡ old
SeenAfter (Some m) now old new =
    (taken : Option Captured) × (IsTaken taken (snapshot_of now) × (new ≡ Some (taken_at (says_output m) taken)))

-- this can be seen; of the program as it runs, where that was asked for
abbrev pub IsSeenNow : Bool → Now → Option Captured → Type 0
IsSeenNow running now seen = (taken : Option Captured) × (IsTaken taken (snapshot_of now) × (seen ≡ taken_at running taken))

-- the part of new bytes that is among those watched
abbrev pub watched_part : ℕ → List ℕ → List ℕ → List ℕ
watched_part count queued news = take (count - length queued) news

-- these bytes were queued, for the connection that is watched; what could be seen is kept where they are messages, as they are
pub record Noted (news : List ℕ) (old new : Tracked) : Type 0 where
  pub queued : new.queued ≡ old.queued ++ news
  pub snapshot : stream_fault (watched_part old.count old.queued news) ≡ None
      → SeenAfter (last_from None (messages_so_far (watched_part old.count old.queued news))) old.session.now old.snapshot new.snapshot

-- nothing else changes
pub record SameBut (old new : Tracked) : Type 0 where
  pub session : new.session ≡ old.session
  pub connection : new.connection ≡ old.connection
  pub count : new.count ≡ old.count
  pub current : new.current ≡ old.current
  pub accepted : new.accepted ≡ old.accepted

abbrev pub NotedIf : Bool → List ℕ → Tracked → Tracked → Type 0
NotedIf true news old new = Noted news old new
NotedIf false news old new = (new.queued ≡ old.queued) × (new.snapshot ≡ old.snapshot)
