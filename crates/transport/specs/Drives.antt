-- The rounds in which a connection is driven over a wire, and how driving ends.
--
-- What is to be done next is decided anew in each round (`due` of `Rounds`): while bytes wait, they are sent; when all is
-- said, the connection ends; a request that waits is answered, with the file that it wants, if it wants one; a program
-- that runs is given time for 100,000 moves; and else a piece is received, and waited for. So nothing waits unsent while
-- a wait for bytes may last.
--
-- Bytes are waited for only where nothing else is due. So a program that runs is given time, however silent its editor is.
--
-- The editor is heard while a program runs. A wire that can be looked at without waiting is looked at before each slice:
-- a piece that has come is received, and time is given only where none has. On another wire the program is held once it
-- made 10,000,000 moves since bytes came, or since driving began where none came yet: it stops then, and a piece is
-- received.
--
-- A round is an event of the session, or two where the program is held after its time. The end of the input ends the
-- connection, and so does a call of the wire that fails.
--
-- A wire may say which bytes it has left to give and which it has taken, and it counts the calls that failed, the looks
-- that found nothing, and the waits (`Line` of `Wires`); what is said here of bytes and counts is held against these. So
-- may files say which reads they have answered, and what each gave (`Files`): what requests were answered with is held
-- against that, read by read.
use Rattle.std.specs.Prelude.{◌≡◌, ℕ, ◌+◌, ◌≤◌, nat_le, Bool, true, false, List, [], ◌∷◌, ◌++◌, length}
use Rattle.std.specs.Prelude.{Option, Some}
use Rattle.std.specs.Io.KnownBytes.{IsAtEnd}
use Rattle.session.specs.declared.event.Event.{Event}
use Rattle.session.specs.declared.event.Event.TheVariants.{Connect, Recv, Turn, Slice, Hold, Sent, DropConnection}
use Rattle.session.specs.Kept.{Kept, Stands}
use Rattle.session.specs.Prefixes.{IsPrefixOf}
use Rattle.session.specs.Sessions.{Session, Effect}
use Rattle.wires.specs.Wires.{Line, Moved, one_more}
use Rattle.transport.specs.declared.end.DriveEnd.{DriveEnd}
use Rattle.transport.specs.declared.end.DriveEnd.TheVariants.{Closed, Fault, Turns, NoMemory}
use Rattle.transport.specs.Files.{FileRead, KnownReads, Records, IsShort}
use Rattle.transport.specs.Rounds.{IsGiven, wanted, most_moves, moves_made, Due, Send, Leave, Answer, Run}
use Rattle.transport.specs.Rounds.{Receive, due_in, Round, Did, Ran, IsTaken, after_round, since_round}
use Rattle.transport.specs.Rounds.{after_rounds, received, sent, reads, RunsOut}
use Rattle.transport.specs.Told.{Known, untold, events_of}

-- ---- one round

-- A piece may be received where nothing else is due, and also while a program runs, over a wire that can be looked at.
abbrev pub MayCome : Bool → Due → Type 0
MayCome polls Send = ⊥
MayCome polls Leave = ⊥
MayCome polls Answer = ⊥
MayCome polls Run = polls ≡ true
MayCome polls Receive = Unit {0}

-- whether the event is what is to be done: at least one of the bytes that wait is sent, a request is answered with the
-- file that it wants, or a piece of at least one byte is received
abbrev pub DoesWhatIsDue : Bool → Session → Event → Type 0
DoesWhatIsDue polls s (Sent n) = (due_in s ≡ Send) × (1 ≤ n) × (n ≤ length s.waiting)
DoesWhatIsDue polls s (Turn file) = (due_in s ≡ Answer) × IsGiven (wanted s) file
DoesWhatIsDue polls s (Recv piece) = MayCome polls (due_in s) × (1 ≤ length piece)
DoesWhatIsDue polls s Connect = ⊥
DoesWhatIsDue polls s (Slice n) = ⊥
DoesWhatIsDue polls s Hold = ⊥
DoesWhatIsDue polls s DropConnection = ⊥

-- whether a program that made that many moves since bytes came is held: never over a wire that can be looked at
abbrev pub is_held : Bool → ℕ → Bool
is_held true made = false
is_held false made = nat_le most_moves made

-- The round is one of this session over a wire, where the program made that many moves since bytes came. A wire makes a
-- call that was interrupted again by itself.
abbrev pub IsRound : Bool → ℕ → Session → Round → Type 0
IsRound polls since s (Did e) = DoesWhatIsDue polls s e × IsTaken s e
IsRound polls since s (Ran holds) = (due_in s ≡ Run) × (holds ≡ is_held polls (since + moves_made s))

-- how many looks found nothing, by how many did before a program was given time: one more, where the wire can be looked
-- at
abbrev pub idle_looked : Bool → ℕ → ℕ
idle_looked true count = one_more count
idle_looked false count = count

-- how many looks found nothing after a round, by how many did before it
abbrev pub idle_after : Bool → ℕ → Round → ℕ
idle_after polls count (Did e) = count
idle_after polls count (Ran holds) = idle_looked polls count

-- how many waits there were after a turn, by what was due in it and how many there were before: one more where only a piece was
-- to be received
abbrev pub waits_at : Due → ℕ → ℕ
waits_at Receive count = one_more count
waits_at _ count = count

-- ---- one round after the other

-- each round is one of the session after the rounds before it
abbrev pub AreRounds : Bool → ℕ → Session → List Round → Type 0
AreRounds polls since s [] = Unit {0}
AreRounds polls since s (r ∷ rounds) =
    IsRound polls since s r × AreRounds polls (since_round since s r) (after_round s r) rounds

-- how many looks found nothing, after rounds
abbrev pub idle_after_rounds : Bool → ℕ → List Round → ℕ
idle_after_rounds polls count [] = count
idle_after_rounds polls count (r ∷ rounds) = idle_after_rounds polls (idle_after polls count r) rounds

-- how many waits there were, after rounds
abbrev pub waits_after_rounds : ℕ → Session → List Round → ℕ
waits_after_rounds count s [] = count
waits_after_rounds count s (r ∷ rounds) = waits_after_rounds (waits_at (due_in s) count) (after_round s r) rounds

-- ---- the end

-- why driving ends
pub data Cause : Type 0 where
  -- all was said
  AllSaid : Cause
  -- no more will come
  InputEnded : Cause
  -- a call of the wire failed, after it wrote these bytes
  CallFailed : List ℕ → Cause
  -- no memory was left before the first round
  NoRoom : Cause
  -- no memory was left to answer the request that is due, for which these reads were made; or to read the file that it wants
  NoAnswer : List FileRead → Cause
  -- no memory was left for this piece, which had come, and is lost
  PieceLost : List ℕ → Cause
  -- no memory was left in a slice of the program
  TimeCut : Cause
  -- all turns were made
  TurnsMade : Cause

-- how driving ends, by its cause
abbrev pub end_of : Cause → DriveEnd
end_of AllSaid = Closed
end_of InputEnded = Closed
end_of (CallFailed part) = Fault
end_of NoRoom = NoMemory
end_of (NoAnswer unused) = NoMemory
end_of (PieceLost piece) = NoMemory
end_of TimeCut = NoMemory
end_of TurnsMade = Turns

-- the bytes that came over the wire in no round
abbrev pub lost_by : Cause → List ℕ
lost_by (PieceLost piece) = piece
lost_by _ = []

-- the bytes that were written in no round
abbrev pub written_by : Cause → List ℕ
written_by (CallFailed part) = part
written_by _ = []

-- the reads of files that were given in no round
abbrev pub unused_by : Cause → List FileRead
unused_by (NoAnswer unused) = unused
unused_by _ = []

-- the events of the end: where it ends the connection, that is one
abbrev pub events_by : Cause → List Event
events_by AllSaid = DropConnection ∷ []
events_by InputEnded = DropConnection ∷ []
events_by (CallFailed part) = DropConnection ∷ []
events_by NoRoom = []
events_by (NoAnswer unused) = []
events_by (PieceLost piece) = DropConnection ∷ []
events_by TimeCut = []
events_by TurnsMade = []

-- how many calls of the wire failed, by how many did before
abbrev pub failed_by : Cause → ℕ → ℕ
failed_by (CallFailed part) count = one_more count
failed_by _ count = count

-- how many looks found nothing where driving ended, by how many did before
abbrev pub idle_by : Bool → Cause → ℕ → ℕ
idle_by polls TimeCut count = idle_looked polls count
idle_by polls _ count = count

-- how many waits there were where driving ended, by what was due then and how many there were before
abbrev pub waits_by : Cause → Due → ℕ → ℕ
waits_by NoRoom due count = count
waits_by TurnsMade due count = count
waits_by _ due count = waits_at due count

-- A call of the wire may fail where one is due. One that sends may have written a prefix of the bytes that wait.
abbrev pub MayFail : Bool → Due → List ℕ → List ℕ → Type 0
MayFail polls Send waiting part = IsPrefixOf part waiting
MayFail polls Leave waiting part = ⊥
MayFail polls Answer waiting part = ⊥
MayFail polls Run waiting part = (polls ≡ true) × (part ≡ [])
MayFail polls Receive waiting part = part ≡ []

-- The reads that were made for a request which was not answered: at most one, of the file that it wants.
abbrev pub AreUnused : Option (List ℕ) → List FileRead → Type 0
AreUnused wants [] = Unit {0}
AreUnused wants (read ∷ others) = (wants ≡ Some read.path) × IsShort read.gave × (others ≡ [])

-- Driving may end for this cause, after `made` rounds of at most `turns`; the session was this one after them, and the
-- wire has these bytes left to give.
abbrev pub IsCause : Bool → Cause → Option (List ℕ) → ℕ → ℕ → Session → Type 0
IsCause polls AllSaid left turns made s = due_in s ≡ Leave
IsCause polls InputEnded left turns made s = MayCome polls (due_in s) × IsAtEnd left
IsCause polls (CallFailed part) left turns made s = MayFail polls (due_in s) s.waiting part
IsCause polls NoRoom left turns made s = made ≡ 0
IsCause polls (NoAnswer unused) left turns made s = (due_in s ≡ Answer) × AreUnused (wanted s) unused
IsCause polls (PieceLost piece) left turns made s = MayCome polls (due_in s) × (1 ≤ length piece)
IsCause polls TimeCut left turns made s = due_in s ≡ Run
IsCause polls TurnsMade left turns made s = made ≡ turns

-- What is left of the session where driving ended: the connection has ended, except where all turns were made, or where no
-- memory was left before the first round, to answer, or in a slice of the program, which stands where its slice says, and is
-- not held.
abbrev pub Leaves : Cause → Session → Kept → Type 0
Leaves AllSaid s new = Stands new (Effect s DropConnection)
Leaves InputEnded s new = Stands new (Effect s DropConnection)
Leaves (CallFailed part) s new = Stands new (Effect s DropConnection)
Leaves NoRoom s new = Stands new s
Leaves (NoAnswer unused) s new = Stands new s
Leaves (PieceLost piece) s new = Stands new (Effect s DropConnection)
Leaves TimeCut s new = RunsOut s new
Leaves TurnsMade s new = Stands new s

-- how many turns driving takes, by how many rounds there are: that in which it ends is one more, if there is such
abbrev pub turns_of : Cause → ℕ → ℕ
turns_of NoRoom made = made
turns_of TurnsMade made = made
turns_of _ made = made + 1

-- The rounds are made one after the other, in at most that many turns, and then driving ends for the cause: each does what
-- is due. The pieces that they received are what
-- the wire gave, but for a piece that was lost at the end; the bytes that they sent are what it took, but for what a call
-- that failed had written. The wire counts one call that failed where one ends driving, and else none; and one look that
-- found nothing for each slice that a program got, where it can be looked at, and else none; and one wait for each turn
-- in which only a piece was to be received, and else none.
pub record Drove (old new : Line) (turns : ℕ) (s : Session) (rounds : List Round) (cause : Cause)
    : Type 0 where
  pub are_rounds : AreRounds old.polls 0 s rounds
  pub few : turns_of cause (length rounds) ≤ turns
  pub moved : Moved old new (received rounds ++ lost_by cause) (sent s rounds ++ written_by cause)
      (failed_by cause old.faults) (idle_by old.polls cause (idle_after_rounds old.polls old.idle rounds))
  pub waits : new.waits ≡ waits_by cause (due_in (after_rounds s rounds)) (waits_after_rounds old.waits s rounds)
  pub is_cause : IsCause old.polls cause new.remaining turns (length rounds) (after_rounds s rounds)

-- There are rounds, and a cause for which driving ends after them. The reads that the files answered are those that the
-- rounds were given, one after the other, but for one that was made for a request that was not answered. The recorder was told the events of
-- the rounds, and that of the end.
pub record DrivenTold (before after : Known) (old new : Line) (turns : ℕ) (s : Session) (kept : Kept) (end : DriveEnd)
    : Type 0 where
  pub rounds : List Round
  pub cause : Cause
  pub drove : Drove old new turns s rounds cause
  pub files : Records before.reads after.reads (reads s rounds ++ unused_by cause)
  pub told : Records before.told after.told (events_of rounds ++ events_by cause)
  pub is_end : end_of cause ≡ end
  pub leaves : Leaves cause (after_rounds s rounds) kept

-- the same, where nobody is told
abbrev pub Driven : KnownReads → KnownReads → Line → Line → ℕ → Session → Kept → DriveEnd → Type 0
Driven before after = DrivenTold (untold before) (untold after)
