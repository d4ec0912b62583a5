-- One pass of the loop.
use Rattle.std.specs.Prelude.{◌≡◌, ℕ, ◌+◌, Bool, List, [], ◌++◌, length}
use Rattle.std.specs.Prelude.{Result, Ok, Err}
use Rattle.session.specs.Kept.{Kept, Stands}
use Rattle.session.specs.Sessions.{Session}
use Rattle.wires.specs.Wires.{Line, Moved}
use Rattle.transport.specs.declared.end.DriveEnd.{DriveEnd}
use Rattle.transport.specs.declared.end.DriveEnd.TheVariants.{Closed, Fault, Turns, NoMemory}
use Rattle.transport.specs.Files.{Records}
use Rattle.transport.specs.Rounds.{Round, after_round, since_round}
use Rattle.transport.specs.Rounds.{received_in, sent_in, reads_in, after_rounds, since_rounds, received, sent, reads}
use Rattle.transport.specs.Told.{Known, events_in, events_of}
use Rattle.transport.specs.Drives.{IsRound, idle_looked, idle_after, AreRounds, idle_after_rounds, waits_after_rounds, Cause, end_of, lost_by, written_by, unused_by, events_by, failed_by, idle_by, IsCause, Leaves, turns_of, Drove, NoRoom}

-- Nothing moved before a program is given time; a wire that can be looked at found nothing.
abbrev pub Passed : Bool → Line → Line → Type 0
Passed polls old new = (old.polls ≡ polls) × Moved old new [] [] old.faults (idle_looked polls old.idle)

-- One pass makes a round, and then driving continues, with another count of moves.
pub record GoesOn (before after : Known) (since next : ℕ) (old new : Line) (s : Session) (kept : Kept) : Type 0 where
  pub round : Round
  pub is_round : IsRound old.polls since s round
  pub counts : since_round since s round ≡ next
  pub moved : Moved old new (received_in round) (sent_in s round) old.faults (idle_after old.polls old.idle round)
  pub files : Records before.reads after.reads (reads_in s round)
  pub told : Records before.told after.told (events_in round)
  pub stands : Stands kept (after_round s round)

-- Driving ends, however many rounds there were.
pub record Stops (before after : Known) (end : DriveEnd) (old new : Line) (s : Session) (kept : Kept) : Type 0 where
  pub cause : Cause
  pub moved : Moved old new (lost_by cause) (written_by cause) (failed_by cause old.faults)
      (idle_by old.polls cause old.idle)
  pub files : Records before.reads after.reads (unused_by cause)
  pub told : Records before.told after.told (events_by cause)
  pub is_end : end_of cause ≡ end
  pub is_cause : (turns made : ℕ) → IsCause old.polls cause new.remaining turns made s
  pub leaves : Leaves cause s kept

-- One pass makes a round, or it ends driving.
abbrev pub Went : Known → Known → ℕ → Result ℕ DriveEnd → Line → Line → Session → Kept → Type 0
Went before after since (Ok next) old new s kept = GoesOn before after since next old new s kept
Went before after since (Err end) old new s kept = Stops before after end old new s kept

-- whether there was room to drive
abbrev pub HasBegun : Cause → Type 0
HasBegun NoRoom = ⊥
HasBegun _ = Unit {0}

-- whether the connection has ended, and nothing else
abbrev pub IsLeaving : DriveEnd → Type 0
IsLeaving Closed = Unit {0}
IsLeaving Fault = Unit {0}
IsLeaving Turns = ⊥
IsLeaving NoMemory = ⊥

-- A session is driven where there is room, and that takes `taken` turns.
pub record DroveFor (before after : Known) (old new : Line) (turns taken : ℕ) (s : Session) (kept : Kept)
    (end : DriveEnd) : Type 0 where
  pub rounds : List Round
  pub cause : Cause
  pub drove : Drove old new turns s rounds cause
  pub files : Records before.reads after.reads (reads s rounds ++ unused_by cause)
  pub told : Records before.told after.told (events_of rounds ++ events_by cause)
  pub is_end : end_of cause ≡ end
  pub leaves : Leaves cause (after_rounds s rounds) kept
  pub began : HasBegun cause
  pub counts : turns_of cause (length rounds) ≡ taken

-- Since a session was this one it has been driven for `made` rounds.
pub record Driving (before after : Known) (old new : Line) (made since : ℕ) (s : Session) (kept : Kept) : Type 0 where
  pub rounds : List Round
  pub are_rounds : AreRounds old.polls 0 s rounds
  pub count : length rounds ≡ made
  pub counts : since_rounds 0 s rounds ≡ since
  pub moved : Moved old new (received rounds) (sent s rounds) old.faults
      (idle_after_rounds old.polls old.idle rounds)
  pub waits : new.waits ≡ waits_after_rounds old.waits s rounds
  pub files : Records before.reads after.reads (reads s rounds)
  pub told : Records before.told after.told (events_of rounds)
  pub stands : Stands kept (after_rounds s rounds)
