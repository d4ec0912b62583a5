-- What an event queues, and what can be seen once it is done.
--
-- A message comes with what could be seen when it was queued. Whoever replays a session event by event sees it between
-- events only. That is enough: after a turn, and after a slice that makes no move, or one move where nothing is left to
-- be told before it, what can be seen is what could be seen at each message that it queued. There is one exception: output,
-- which is what the program printed and what its logpoints say, is told while it runs, and it may have stopped since.
use Rattle.std.specs.Prelude.{◌≡◌, ℕ, Bool, true, false, List, [], ◌++◌, All, is_some, Option, option_map}
use Rattle.debuggee.specs.Programs.{Program}
use Rattle.facts.specs.Facts.{Facts}
use Rattle.facts.specs.declared.run.RunState.TheVariants.{Running}
use Rattle.replies.specs.declared.event.Event.TheVariants as event
use Rattle.replies.specs.declared.message.Message.{Message}
use Rattle.replies.specs.declared.message.Message.TheVariants.{Response as IsResponse, Event as IsEvent}
use Rattle.session.specs.Effects.{ended_as, sliced}
use Rattle.session.specs.Sessions.{Effect, Said, Session, histories, snapshot_of}
use Rattle.snapshots.specs.Shown.{Snapshot, shown_by}
use Rattle.session.specs.Slices.{beat, ends}
use Rattle.session.specs.declared.event.SliceEnd.TheVariants as ending
use Rattle.session.specs.declared.event.Event.TheVariants.{Slice, Turn}
use Rattle.variables.specs.Numbers.{Numbers}

-- what can be seen of a program, as facts, and the path of its file, if there is a program
pub record Sight : Type 0 where
  pub facts : Facts
  pub path : Option (List ℕ)

abbrev pub sight_by : Option Program → Numbers → Sight
sight_by program numbers = record { facts = shown_by program numbers; path = option_map (λ p. p.path) program }

abbrev pub sight : Snapshot → Sight
sight seen = sight_by seen.debuggee.program seen.numbers

-- what can be seen now
abbrev pub seen_now : Session → Sight
seen_now s = sight (snapshot_of s.now)

-- the same, of a program that runs
abbrev pub as_running : Sight → Sight
as_running s = record s { facts = record s.facts { run = Running } }

-- whether a message says what the program printed, or what a logpoint says
abbrev pub says_output : Message → Bool
says_output (IsResponse r) = false
says_output (IsEvent (event.Output o)) = true
says_output (IsEvent event.Initialized) = false
says_output (IsEvent (event.Stopped b)) = false
says_output (IsEvent event.Continued) = false
says_output (IsEvent (event.Exited b)) = false
says_output (IsEvent event.Terminated) = false

-- what could be seen at such a message, by what can be seen now
abbrev pub seen_at : Bool → Sight → Sight
seen_at true s = as_running s
seen_at false s = s

-- what could be seen is what can be seen now
abbrev pub Fits : Session → Said → Type 0
Fits t m = sight m.snapshot ≡ seen_at (says_output m.message) (seen_now t)

-- These messages were queued between two times, and nothing else happened to the lives.
pub record Newly (s t : Session) (news : List Said) : Type 0 where
  pub life : t.life ≡ record s.life { said = s.life.said ++ news }
  pub before : t.before ≡ s.before
  pub connections : t.now.connections ≡ s.now.connections
  pub linked : is_some t.now.link ≡ is_some s.now.link
  pub silent : is_some s.now.link ≡ false → news ≡ []
  pub fits : All (Fits t) news

-- Some messages were.
pub record IsFollowed (s t : Session) : Type 0 where
  pub news : List Said
  pub newly : Newly s t news

-- nothing is left to be told before a move, or to be done: a slice without moves would be spent
abbrev pub IsAtRest : Session → Type 0
IsAtRest s = beat (histories.see s) false ≡ ends ending.Spent

-- a slice of this many moves ends because they were made
abbrev pub Spends : ℕ → Session → Type 0
Spends n s = ended_as (sliced histories n s).ending ≡ ending.Spent

-- What can be seen at the end of an event is what could be seen at each message that it queued.
pub record IsSeenAfter (s : Session) : Type 0 where
  pub turn : (file : Option (List ℕ)) → IsFollowed s (Effect s (Turn file))
  pub none : IsFollowed s (Effect s (Slice 0))
  pub one : IsAtRest s → IsFollowed s (Effect s (Slice 1))
  -- a slice that is spent leaves nothing
  pub rests : (n : ℕ) → Spends n s → IsAtRest (Effect s (Slice n))
