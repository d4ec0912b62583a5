-- How editors are served one after the other, each over a wire of its own that a door accepts.
--
-- While no editor is connected, the door is asked for the next wire: it is polled while a program runs, and waited for
-- only where none runs; so a program that runs is given time, however long no editor comes. An editor whose wire was
-- accepted is connected, and its connection is driven over that wire (`Drives`) until it ends. Where a poll accepts no
-- wire, the program runs unattended: it is given a slice of 100,000 moves. A failed call of a wire ends its connection
-- alone; a failed call of the door ends serving.
--
-- A turn is one of these: a connection that is accepted, a slice of an unattended program, a round of a connection, and
-- the end of a connection. Where turns or memory end serving while an editor is connected, its connection ends too.
use Rattle.std.specs.Prelude.{◌≡◌, ℕ, ◌+◌, ◌-◌, ◌≤◌, Bool, true, false, List, [], ◌∷◌, ◌++◌, length, Option, IsOk, IsErr}
use Rattle.session.specs.declared.event.Event.{Event}
use Rattle.session.specs.declared.event.Event.TheVariants.{Connect, Slice, DropConnection}
use Rattle.session.specs.Effects.{BreaksOff}
use Rattle.session.specs.Kept.{Kept, Stands}
use Rattle.session.specs.Sessions.{Session, Effect, Answer as answer_of, histories}
use Rattle.session.specs.Slices.{is_runnable}
use Rattle.wires.specs.Doors.{Doorway, IsEmpty, Opened}
use Rattle.wires.specs.Wires.{Line, one_more}
use Rattle.transport.specs.declared.end.DriveEnd.{DriveEnd}
use Rattle.transport.specs.declared.end.DriveEnd.TheVariants.{Closed, Fault, Turns, NoMemory}
use Rattle.transport.specs.Files.{FileRead, KnownReads, Records}
use Rattle.transport.specs.Rounds.{moves_granted, Round, after_rounds, reads, RunsOut}
use Rattle.transport.specs.Drives.{Cause, AllSaid, InputEnded, CallFailed, NoAnswer, PieceLost, TimeCut, TurnsMade}
use Rattle.transport.specs.Drives.{end_of, turns_of, unused_by, events_by, Drove}
use Rattle.transport.specs.Told.{Known, untold, events_of}

-- ---- one iteration

-- what happens from one time at which no editor is connected to the next
pub data Iteration : Type 0 where
  -- no connection was waiting, and the program that runs was given a slice
  Unattended : Iteration
  -- a connection over a wire, which was seen as the first of these when it was accepted and as the second at its end; these
  -- rounds were made, and it ended for a cause
  Connection : Line → Line → List Round → Cause → Iteration

-- The connection ended for a cause after which serving continues: the editor has left, or its wire failed.
abbrev pub HasLeft : Cause → Type 0
HasLeft AllSaid = Unit {0}
HasLeft InputEnded = Unit {0}
HasLeft (CallFailed part) = Unit {0}
HasLeft _ = ⊥

-- The connection ended for a cause that ends serving too: turns or memory.
abbrev pub IsCut : Cause → Type 0
IsCut (NoAnswer unused) = Unit {0}
IsCut (PieceLost piece) = Unit {0}
IsCut TimeCut = Unit {0}
IsCut TurnsMade = Unit {0}
IsCut _ = ⊥

-- An editor is connected, and its connection is driven for at most that many turns.
pub record IsConnection (turns : ℕ) (s : Session) (old new : Line) (rounds : List Round)
    (cause : Cause) : Type 0 where
  pub connects : IsOk (answer_of s Connect)
  pub drove : Drove old new turns (Effect s Connect) rounds cause

-- The session may have this iteration, where that many turns are left.
abbrev pub IsIteration : ℕ → Session → Iteration → Type 0
IsIteration turns s Unattended = is_runnable s.now ≡ true
IsIteration turns s (Connection old new rounds cause) =
    IsConnection (turns - 1) s old new rounds cause × HasLeft cause

-- how many turns an iteration took
abbrev pub turns_in : Iteration → ℕ
turns_in Unattended = 1
turns_in (Connection old new rounds cause) = turns_of cause (length rounds) + 1

-- the session after an iteration
abbrev pub after_iteration : Session → Iteration → Session
after_iteration s Unattended = Effect s (Slice moves_granted)
after_iteration s (Connection old new rounds cause) = Effect (after_rounds (Effect s Connect) rounds) DropConnection

-- the wires that were accepted in an iteration
abbrev pub lines_in : Iteration → List Line
lines_in Unattended = []
lines_in (Connection old new rounds cause) = old ∷ []

-- the reads of files that were made for a connection
abbrev pub reads_for : Session → List Round → Cause → List FileRead
reads_for s rounds cause = reads (Effect s Connect) rounds ++ unused_by cause

-- the reads of files in an iteration
abbrev pub reads_within : Session → Iteration → List FileRead
reads_within s Unattended = []
reads_within s (Connection old new rounds cause) = reads_for s rounds cause

-- the events of a connection
abbrev pub events_for : List Round → Cause → List Event
events_for rounds cause = Connect ∷ (events_of rounds ++ events_by cause)

-- the events of an iteration
abbrev pub events_within : Iteration → List Event
events_within Unattended = Slice moves_granted ∷ []
events_within (Connection old new rounds cause) = events_for rounds cause

-- how many polls of the door accepted no wire, after that many did before
abbrev pub idle_in : ℕ → Iteration → ℕ
idle_in count Unattended = one_more count
idle_in count (Connection old new rounds cause) = count

-- how many waits for an editor there were after a call of the door, by whether a program runs and how many there were
-- before: one more where none runs
abbrev pub waits_while : Bool → ℕ → ℕ
waits_while true count = count
waits_while false count = one_more count

-- ---- one iteration after the other

-- The session may have these iterations, where that many turns are left.
abbrev pub AreIterations : ℕ → Session → List Iteration → Type 0
AreIterations turns s [] = Unit {0}
AreIterations turns s (x ∷ iterations) =
    IsIteration turns s x × AreIterations (turns - turns_in x) (after_iteration s x) iterations

-- how many turns iterations took
abbrev pub turns_taken : List Iteration → ℕ
turns_taken [] = 0
turns_taken (x ∷ iterations) = turns_in x + turns_taken iterations

-- the session after iterations
abbrev pub after_iterations : Session → List Iteration → Session
after_iterations s [] = s
after_iterations s (x ∷ iterations) = after_iterations (after_iteration s x) iterations

-- the wires that were accepted in iterations
abbrev pub lines_of : List Iteration → List Line
lines_of [] = []
lines_of (x ∷ iterations) = lines_in x ++ lines_of iterations

-- the reads of files in iterations
abbrev pub reads_of : Session → List Iteration → List FileRead
reads_of s [] = []
reads_of s (x ∷ iterations) = reads_within s x ++ reads_of (after_iteration s x) iterations

-- the events of iterations
abbrev pub events_of_all : List Iteration → List Event
events_of_all [] = []
events_of_all (x ∷ iterations) = events_within x ++ events_of_all iterations

-- how many polls of the door accepted no wire, after that many did before
abbrev pub idle_after_iterations : ℕ → List Iteration → ℕ
idle_after_iterations count [] = count
idle_after_iterations count (x ∷ iterations) = idle_after_iterations (idle_in count x) iterations

-- how many waits for an editor there were, after that many before
abbrev pub waits_after_iterations : ℕ → Session → List Iteration → ℕ
waits_after_iterations count s [] = count
waits_after_iterations count s (x ∷ iterations) =
    waits_after_iterations (waits_while (is_runnable s.now) count) (after_iteration s x) iterations

-- ---- the end

-- why serving ends
pub data Why : Type 0 where
  -- the door accepts no further connection
  DoorClosed : Why
  -- the session refused to connect the editor over this accepted wire
  Refused : Line → Why
  -- a call of the door failed
  DoorFailed : Why
  -- all turns were taken
  AllMade : Why
  -- no memory was left before the first turn
  NoRoomYet : Why
  -- no memory was left in a slice of an unattended program
  UnattendedCut : Why
  -- turns or memory ended a connection over a wire, which was seen as the first of these when it was accepted and as the
  -- second at its end, after these rounds
  ConnectionCut : Line → Line → List Round → Cause → Why

-- how serving ends, by why it does
abbrev pub end_by : Why → DriveEnd
end_by DoorClosed = Closed
end_by (Refused line) = Closed
end_by DoorFailed = Fault
end_by AllMade = Turns
end_by NoRoomYet = NoMemory
end_by UnattendedCut = NoMemory
end_by (ConnectionCut old new rounds cause) = end_of cause

-- the wires that were accepted after the last iteration
abbrev pub lines_by : Why → List Line
lines_by (Refused line) = line ∷ []
lines_by (ConnectionCut old new rounds cause) = old ∷ []
lines_by _ = []

-- the reads of files after the last iteration
abbrev pub reads_at : Session → Why → List FileRead
reads_at s (ConnectionCut old new rounds cause) = reads_for s rounds cause
reads_at s _ = []

-- the events after the last iteration: a connection that is cut ends
abbrev pub events_at : Why → List Event
events_at (ConnectionCut old new rounds cause) = events_for rounds cause ++ DropConnection ∷ []
events_at _ = []

-- how many calls of the door failed, after that many did before
abbrev pub failed_at : Why → ℕ → ℕ
failed_at DoorFailed count = one_more count
failed_at _ count = count

-- how many polls of the door accepted no wire, after that many did before, where serving ended
abbrev pub idle_at : Why → ℕ → ℕ
idle_at UnattendedCut count = one_more count
idle_at _ count = count

-- the same, where serving ended
abbrev pub waits_until : Why → Bool → ℕ → ℕ
waits_until AllMade runs count = count
waits_until NoRoomYet runs count = count
waits_until _ runs count = waits_while runs count

-- Serving may end for this reason, where the door has these wires left to accept, that many turns are left, that many were
-- taken, and no editor is connected to the session.
abbrev pub IsWhy : Why → Option (List Line) → ℕ → ℕ → Session → Type 0
IsWhy DoorClosed wires left taken s = IsEmpty wires
IsWhy (Refused line) wires left taken s = IsErr (answer_of s Connect)
IsWhy DoorFailed wires left taken s = Unit {0}
IsWhy AllMade wires left taken s = left ≡ 0
IsWhy NoRoomYet wires left taken s = taken ≡ 0
IsWhy UnattendedCut wires left taken s = is_runnable s.now ≡ true
IsWhy (ConnectionCut old new rounds cause) wires left taken s =
    IsConnection (left - 1) s old new rounds cause × IsCut cause

-- what is left of a session whose connection was cut, by what it was after the rounds
abbrev pub LeavesCut : Cause → Session → Kept → Type 0
LeavesCut TimeCut s new = (moved : ℕ) × BreaksOff histories moves_granted moved s (λ t. Stands new (Effect t DropConnection))
LeavesCut _ s new = Stands new (Effect s DropConnection)

-- what is left of a session where serving ends
abbrev pub LeavesBy : Why → Session → Kept → Type 0
LeavesBy UnattendedCut s new = RunsOut s new
LeavesBy (ConnectionCut first last rounds cause) s new = LeavesCut cause (after_rounds (Effect s Connect) rounds) new
LeavesBy _ s new = Stands new s

-- There are iterations, one after the other, and after them serving ends. The accepted wires are those that the door gave.
-- The door counts one failed call where serving ends as a fault, else none, and one poll that accepted no wire for each slice
-- of an unattended program. It counts one wait for each call where no program ran, and else none. The reads that the files answered are
-- those for the connections, one after the other. The recorder was told the events of the iterations, and those after the last.
pub record ServedTold (before after : Known) (old new : Doorway) (turns : ℕ) (s : Session) (kept : Kept) (end : DriveEnd)
    : Type 0 where
  pub iterations : List Iteration
  pub why : Why
  pub are_iterations : AreIterations turns s iterations
  pub few : turns_taken iterations ≤ turns
  pub opened : Opened old new (lines_of iterations ++ lines_by why) (failed_at why old.faults)
      (idle_at why (idle_after_iterations old.idle iterations))
  pub waits : new.waits ≡ waits_until why (is_runnable (after_iterations s iterations).now) (waits_after_iterations old.waits s iterations)
  pub files : Records before.reads after.reads (reads_of s iterations ++ reads_at (after_iterations s iterations) why)
  pub told : Records before.told after.told (events_of_all iterations ++ events_at why)
  pub is_end : end_by why ≡ end
  pub is_why : IsWhy why new.wires (turns - turns_taken iterations) (turns_taken iterations)
      (after_iterations s iterations)
  pub leaves : LeavesBy why (after_iterations s iterations) kept

-- the same, where nobody is told
abbrev pub Served : KnownReads → KnownReads → Doorway → Doorway → ℕ → Session → Kept → DriveEnd → Type 0
Served before after = ServedTold (untold before) (untold after)
