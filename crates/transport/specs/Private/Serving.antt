-- One pass of the loop.
use Rattle.std.specs.Prelude.{◌≡◌, ℕ, ◌-◌, List, Result, Ok, Err}
use Rattle.session.specs.Kept.{Kept, Stands}
use Rattle.session.specs.Sessions.{Session}
use Rattle.wires.specs.Doors.{Doorway, Opened}
use Rattle.transport.specs.declared.end.DriveEnd.{DriveEnd}
use Rattle.transport.specs.Files.{Records}
use Rattle.transport.specs.Rounds.{reads}
use Rattle.transport.specs.Told.{Known}
use Rattle.transport.specs.Serving.{Iteration, IsIteration, turns_in, after_iteration, lines_in, reads_within, events_within, idle_in, AreIterations, turns_taken, after_iterations, lines_of, reads_of, events_of_all, idle_after_iterations, waits_after_iterations, Why, end_by, lines_by, reads_at, events_at, failed_at, idle_at, IsWhy, LeavesBy}

-- One iteration took that many turns, where that many were left.
pub record Iterated (before after : Known) (left count : ℕ) (old new : Doorway) (s : Session) (kept : Kept)
    : Type 0 where
  pub iteration : Iteration
  pub is_iteration : IsIteration left s iteration
  pub counts : turns_in iteration ≡ count
  pub opened : Opened old new (lines_in iteration) old.faults (idle_in old.idle iteration)
  pub files : Records before.reads after.reads (reads_within s iteration)
  pub told : Records before.told after.told (events_within iteration)
  pub stands : Stands kept (after_iteration s iteration)

-- Serving ends, however many turns were taken.
pub record Ended (before after : Known) (left : ℕ) (end : DriveEnd) (old new : Doorway) (s : Session) (kept : Kept)
    : Type 0 where
  pub why : Why
  pub opened : Opened old new (lines_by why) (failed_at why old.faults) (idle_at why old.idle)
  pub files : Records before.reads after.reads (reads_at s why)
  pub told : Records before.told after.told (events_at why)
  pub is_end : end_by why ≡ end
  pub is_why : (taken : ℕ) → IsWhy why new.wires left taken s
  pub leaves : LeavesBy why s kept

-- what one pass of the loop does, by its result
abbrev pub IteratedOrEnded : Known → Known → ℕ → Result ℕ DriveEnd → Doorway → Doorway → Session → Kept → Type 0
IteratedOrEnded before after left (Ok count) old new s kept = Iterated before after left count old new s kept
IteratedOrEnded before after left (Err end) old new s kept = Ended before after left end old new s kept

-- Since a session was this one it has been served for that many turns, and serving has not ended.
pub record ServedSoFar (before after : Known) (old new : Doorway) (turns taken : ℕ) (s : Session) (kept : Kept)
    : Type 0 where
  pub iterations : List Iteration
  pub are_iterations : AreIterations turns s iterations
  pub count : turns_taken iterations ≡ taken
  pub opened : Opened old new (lines_of iterations) old.faults (idle_after_iterations old.idle iterations)
  pub waits : new.waits ≡ waits_after_iterations old.waits s iterations
  pub files : Records before.reads after.reads (reads_of s iterations)
  pub told : Records before.told after.told (events_of_all iterations)
  pub stands : Stands kept (after_iterations s iterations)
