-- What an event leaves of a session, and what it answers.
--
-- A session is seen in two ways: with all of its past, and as what the code keeps. Both are worlds in which events
-- happen, and what an event is (`Outcomes`) is said once for both: a world is what is seen of a session, and what an
-- act makes of it.
use Rattle.std.specs.Prelude.{◌≡◌, ◌⊎◌, ℕ, zero, suc, ◌+◌, ◌*◌, nat_lt, Bool, true, ◌||◌, List, [], ◌∷◌, Option, Some, None}
use Rattle.std.specs.Prelude.{Result, Ok, Err}
use Rattle.debuggee.specs.Programs.{Program}
use Rattle.session.specs.declared.event.Applied.{Applied}
use Rattle.session.specs.declared.event.Applied.TheVariants.{Connect as Connected, Recv as Received, Turn as DidTurn}
use Rattle.session.specs.declared.event.Applied.TheVariants.{Slice as DidSlice, Hold as Held, Sent as DidSend}
use Rattle.session.specs.declared.event.Applied.TheVariants.{DropConnection as Dropped}
use Rattle.session.specs.declared.event.SliceEnd.{SliceEnd}
use Rattle.session.specs.declared.event.SliceEnd.TheVariants as ending
use Rattle.session.specs.declared.event.Event.{Event}
use Rattle.session.specs.declared.event.Event.TheVariants.{Connect, Recv, Turn, Slice, Hold, Sent, DropConnection}
use Rattle.session.specs.declared.event.EventError.{EventError}
use Rattle.session.specs.declared.event.EventError.TheVariants.{NotConnected, AlreadyConnected, Busy, SentTooMuch}
use Rattle.session.specs.declared.event.EventError.TheVariants.{PieceTooLong, Closing, NoMemory, Spent}
use Rattle.session.specs.Acts.{Seen, Act}
use Rattle.session.specs.declared.event.Sliced.{Sliced}
use Rattle.session.specs.Outcomes.{is_to_tell, may_lack, needs_memory, outcome}
use Rattle.session.specs.Slices.{Beat, IsFree, beat}
use Rattle.stepping.specs.Runs.{MayLackMemory}

-- a world of sessions: what is seen of each, and what an act makes of it
pub record World (S : Type 0) : Type 0 where
  pub see : S → Seen
  pub perform : Act → S → S

-- what acts make of a session, one after the other
abbrev pub performed : {S : Type 0} → World S → List Act → S → S
performed w [] s = s
performed w (act ∷ acts) s = performed w acts (w.perform act s)

-- ---- slices

-- a slice under way: the session then, how many moves were made, and how it ended, if it did
pub record Slicing (S : Type 0) : Type 0 where
  pub state : S
  pub moved : ℕ
  pub ending : Option SliceEnd

abbrev pub after_beat : {S : Type 0} → World S → Beat → S → S
after_beat w b s = performed w b.acts s

abbrev pub with_beat : {S : Type 0} → World S → Beat → Slicing S → Slicing S
with_beat w b d = record { state = after_beat w b d.state; moved = d.moved + b.moved; ending = b.ending }

abbrev pub next_by : {S : Type 0} → World S → ℕ → Option SliceEnd → Slicing S → Slicing S
next_by w n (Some e) d = d
next_by w n None d = with_beat w (beat (w.see d.state) (nat_lt d.moved n)) d

-- one beat more of a slice of n moves; nothing, once it ended
abbrev pub next_beat : {S : Type 0} → World S → ℕ → Slicing S → Slicing S
next_beat w n d = next_by w n d.ending d

-- a slice under way, after this many beats more
abbrev pub beats_on : {S : Type 0} → World S → ℕ → ℕ → Slicing S → Slicing S
beats_on w n zero d = d
beats_on w n (suc k) d = next_beat w n (beats_on w n k d)

abbrev pub from_here : {S : Type 0} → S → Slicing S
from_here s = record { state = s; moved = 0; ending = None }

-- a slice after this many beats
abbrev pub beats : {S : Type 0} → World S → ℕ → ℕ → S → Slicing S
beats w n k s = beats_on w n k (from_here s)

-- This many beats end each slice: what is owed, the check, what it owes, each move and what it owes, and the end.
abbrev pub enough : ℕ → ℕ
enough n = 2 * n + 4

abbrev pub sliced : {S : Type 0} → World S → ℕ → S → Slicing S
sliced w n s = beats w n (enough n) s

-- it has ended then
abbrev pub ended_as : Option SliceEnd → SliceEnd
ended_as None = ending.Spent
ended_as (Some e) = e

abbrev pub slice_answer : {S : Type 0} → Slicing S → Sliced
slice_answer d = record { moved = d.moved; ending = ended_as d.ending }

-- ---- events

-- what an event leaves
abbrev pub effect : {S : Type 0} → World S → Event → S → S
effect w Connect s = performed w (outcome (w.see s) Connect).acts s
effect w (Recv piece) s = performed w (outcome (w.see s) (Recv piece)).acts s
effect w (Turn file) s = performed w (outcome (w.see s) (Turn file)).acts s
effect w (Slice n) s = (sliced w n s).state
effect w Hold s = performed w (outcome (w.see s) Hold).acts s
effect w (Sent n) s = performed w (outcome (w.see s) (Sent n)).acts s
effect w DropConnection s = performed w (outcome (w.see s) DropConnection).acts s

-- what an event answers
abbrev pub answer : {S : Type 0} → World S → Event → S → Result Applied EventError
answer w Connect s = (outcome (w.see s) Connect).answer
answer w (Recv piece) s = (outcome (w.see s) (Recv piece)).answer
answer w (Turn file) s = (outcome (w.see s) (Turn file)).answer
answer w (Slice n) s = Ok (DidSlice (slice_answer (sliced w n s)))
answer w Hold s = (outcome (w.see s) Hold).answer
answer w (Sent n) s = (outcome (w.see s) (Sent n)).answer
answer w DropConnection s = (outcome (w.see s) DropConnection).answer

-- what a list of events leaves
abbrev pub after_all : {S : Type 0} → World S → List Event → S → S
after_all w [] s = s
after_all w (e ∷ es) s = after_all w es (effect w e s)

-- ---- what a call answers and leaves

-- how many moves were made by a slice that found no memory
abbrev pub ran_out_at : ℕ → SliceEnd → Option ℕ
ran_out_at moved ending.Spent = None
ran_out_at moved ending.Full = None
ran_out_at moved ending.Idle = None
ran_out_at moved ending.Stopped = None
ran_out_at moved ending.Ended = None
ran_out_at moved ending.NoMemory = Some moved

abbrev pub ran_out : Applied → Option ℕ
ran_out (Connected c) = None
ran_out Received = None
ran_out (DidTurn t) = None
ran_out (DidSlice s) = ran_out_at s.moved s.ending
ran_out Held = None
ran_out DidSend = None
ran_out Dropped = None

abbrev pub moves_asked : Event → ℕ
moves_asked Connect = 0
moves_asked (Recv piece) = 0
moves_asked (Turn file) = 0
moves_asked (Slice n) = n
moves_asked Hold = 0
moves_asked (Sent n) = 0
moves_asked DropConnection = 0

-- whether a beat may lack memory for what it tells: something is owed to somebody, or the beat tells something
abbrev pub telling_may_lack : Seen → Bool → Bool
telling_may_lack seen more = is_to_tell seen.now || needs_memory (beat seen more).acts

-- A beat is a move that may lack memory: it stores into a page whose bytes are all 0, or undoes such a store.
pub record MoveMayLack (seen : Seen) (more : Bool) : Type 0 where
  pub goes : more ≡ true
  pub program : Program
  pub free : IsFree program seen
  pub lacks : MayLackMemory program.machine

-- A beat may lack memory: for what it tells, or for a move.
abbrev pub MayLack : Seen → Bool → Type 0
MayLack seen more = (telling_may_lack seen more ≡ true) ⊎ MoveMayLack seen more

-- A slice that found no memory: some beats were made, none of them ended it, and the next one may lack memory.
pub record BreaksOff {S : Type 0} (w : World S) (n moved : ℕ) (s : S) (P : S → Type 0) : Type 0 where
  pub count : ℕ
  pub goes_on : (beats w n count s).ending ≡ None
  pub moves : (beats w n count s).moved ≡ moved
  pub lacks : MayLack (w.see (beats w n count s).state) (nat_lt (beats w n count s).moved n)
  pub holds : P (beats w n count s).state

-- The answer is the event's, and P holds of what the event leaves; of a slice that found no memory, P holds of what
-- there was after some beats.
abbrev pub EndsWell : {S : Type 0} → World S → S → Event → Applied → Option ℕ → (S → Type 0) → Type 0
EndsWell w s e x None P = (answer w e s ≡ Ok x) × P (effect w e s)
EndsWell w s e x (Some moved) P = BreaksOff w (moves_asked e) moved s P

-- What a call answers, and that P holds of what it leaves. Memory runs out only where a turn has to tell somebody what is
-- owed, or the event would be done and needs some; then nothing happened.
abbrev pub Ends : {S : Type 0} → World S → S → Event → Result Applied EventError → (S → Type 0) → Type 0
Ends w s e (Ok x) P = EndsWell w s e x (ran_out x) P
Ends w s e (Err NoMemory) P = (may_lack (w.see s) e ≡ true) × P s
Ends w s e (Err NotConnected) P = (answer w e s ≡ Err NotConnected) × P (effect w e s)
Ends w s e (Err AlreadyConnected) P = (answer w e s ≡ Err AlreadyConnected) × P (effect w e s)
Ends w s e (Err Busy) P = (answer w e s ≡ Err Busy) × P (effect w e s)
Ends w s e (Err SentTooMuch) P = (answer w e s ≡ Err SentTooMuch) × P (effect w e s)
Ends w s e (Err PieceTooLong) P = (answer w e s ≡ Err PieceTooLong) × P (effect w e s)
Ends w s e (Err Closing) P = (answer w e s ≡ Err Closing) × P (effect w e s)
Ends w s e (Err Spent) P = (answer w e s ≡ Err Spent) × P (effect w e s)
