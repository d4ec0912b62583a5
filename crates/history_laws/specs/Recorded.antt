-- What is recorded: where the machine was before each of its last moves (DAP specification, `Capabilities.supportsStepBack`).
--
-- A session does not keep a run from its beginning. It keeps positions: each makes one move to the next, and the newest
-- makes one to where the machine is (`Leading` of `stepping`). So whoever goes back stands where the program has been: where
-- the machine is now is what as many moves as are recorded make of the oldest, and a move that is undone leaves what one
-- move less makes of it.
--
-- How many moves are recorded is a number from 0 to 65,536. It is 0 where a program is loaded or restarted, and where the
-- machine is changed from outside, since no move leads there. A move at which an instruction retires makes it one more,
-- up to 65,536, and then the oldest is forgotten; a move that is undone makes it one less. Whatever else is done to the
-- program leaves it as it is.
use Rattle.std.specs.Prelude.{◌≡◌, ℕ, ◌+◌, ◌-◌, ◌≤◌, Bool, true, false, ◌&&◌, if◌then◌else◌, List, length, min, IfSome}
use Rattle.std.specs.Prelude.{Option, Some, None, Ok}
use Rattle.debuggee.specs.Programs.{Program, first_run, just_loaded, restarted, stays, with_hart, written}
use Rattle.image.specs.Memory.{fault_at}
use Rattle.image.specs.declared.Image.{Image}
use Rattle.image.specs.declared.fault.MemFault.{MemFault}
use Rattle.rv32i.specs.declared.hart.Hart.{Hart}
use Rattle.session.specs.declared.event.Event.TheVariants.{Connect, Recv, Turn, Slice, Hold, Sent, DropConnection}
use Rattle.queues.specs.declared.pending.Ask.{Ask}
use Rattle.queues.specs.declared.pending.Ask.TheVariants.{Request, Bad}
use Rattle.session.specs.Effects.{beats, sliced}
use Rattle.session.specs.Kinds.{is_success}
use Rattle.session.specs.Reached.{Happened, Whole, Cut, leaves}
use Rattle.session.specs.Sessions.{Session, histories}
use Rattle.session_laws.specs.Intents.{Intent, Load, LoadAnew, Begin, End, Change, GoBack, Other, intent_of}
use Rattle.session_laws.specs.Turns.{Answered, answered}
use Rattle.stepping.specs.Goals.{turns_back}
use Rattle.stepping.specs.Leading.{LeadTo, Makes, oldest}
use Rattle.stepping.specs.Ticks.{Debugged, IsTick, course_of, position_of}
use Rattle.stepping.specs.declared.tick.Outcome.{Outcome}
use Rattle.stepping.specs.declared.tick.Tick.{Tick}

-- ---- a run

-- Each recorded position makes one move to the next, and the newest to where the machine is, so that as many moves as are
-- recorded make this of the oldest; and 65,536 are recorded at most.
pub record EndsARun (d : Debugged) : Type 0 where
  pub leads : LeadTo d.past (position_of d)
  pub makes : Makes (length d.past) (oldest (course_of d)) (position_of d)
  pub few : length d.past ≤ 65536

-- The machine of the program, if there is one, is at the end of the run that is recorded.
abbrev pub EveryPastIsARun : Session → Type 0
EveryPastIsARun s = IfSome s.now.debuggee.program (λ p. EndsARun p.machine)

-- ---- how many

-- how many moves are recorded; none where there is no program
abbrev pub recorded_of : Option Program → ℕ
recorded_of None = 0
recorded_of (Some p) = length p.machine.past

-- As many are recorded after a tick: one less where it goes back, if there is one; as many as before where no instruction
-- retired; and else one more, up to 65,536.
abbrev pub count_after : Bool → Outcome → ℕ → ℕ
count_after back outcome n = if back then n - 1 else if stays outcome then n else min (n + 1) 65536

-- the check at the entry records nothing, and undoes nothing
abbrev pub counted : Debugged → Outcome → ℕ
counted d outcome = if d.check_due then length d.past else count_after (turns_back d.goal) outcome (length d.past)

abbrev pub TicksAreCounted : Type 0
TicksAreCounted = (before after : Debugged) (tick : Tick) → IsTick before (Ok tick) after →
    length after.past ≡ counted before tick.outcome

-- None is recorded of a program that was loaded, or loaded anew, nor where its hart was set or bytes were written. Where an
-- address has no byte, nothing is written, and what is recorded stays.
pub record AreGivenUp : Type 0 where
  pub loaded : (image : Image) (path : List ℕ) (stop_on_entry : Bool) (size : ℕ) →
      recorded_of (Some (just_loaded image path stop_on_entry size)) ≡ 0
  pub restarted : (p : Program) → recorded_of (Some (first_run (restarted p))) ≡ 0
  pub sets_hart : (hart : Hart) (p : Program) → recorded_of (Some (with_hart hart p)) ≡ 0
  pub writes : (address : ℕ) (bytes : List ℕ) (p : Program) → fault_at p.machine.memory 1 address (length bytes) ≡ None →
      recorded_of (Some (written address bytes p)) ≡ 0
  pub writes_none : (address : ℕ) (bytes : List ℕ) (p : Program) (fault : MemFault) →
      fault_at p.machine.memory 1 address (length bytes) ≡ Some fault →
      (written address bytes p).machine.past ≡ p.machine.past

-- whether a success of a request gives up what is recorded
abbrev pub gives_up : Intent → Bool
gives_up Load = true
gives_up LoadAnew = true
gives_up Begin = false
gives_up End = false
gives_up Change = true
gives_up (GoBack goal) = false
gives_up Other = false

abbrev pub asks_to_give_up : Ask → Bool
asks_to_give_up (Request r) = gives_up (intent_of r.command)
asks_to_give_up (Bad seq name refusal) = false

-- ---- events

-- as many as before after a turn, and none after a success that gives them up
abbrev pub count_answered : Option Answered → ℕ → ℕ
count_answered None n = n
count_answered (Some a) n = if asks_to_give_up a.request.ask && is_success a.answer.outcome then 0 else n

-- one more, up to 65,536, for each move of a slice, or one less where the program goes back
abbrev pub count_moved : Bool → ℕ → ℕ → ℕ
count_moved back moved n = if back then n - moved else min (n + moved) 65536

abbrev pub count_sliced : Option Program → ℕ → ℕ
count_sliced None moved = 0
count_sliced (Some p) moved = count_moved (turns_back p.machine.goal) moved (length p.machine.past)

-- any other event leaves as many as before
abbrev pub count_of : Session → Happened → ℕ
count_of s (Whole (Turn file)) = count_answered (answered (histories.see s) file) (recorded_of s.now.debuggee.program)
count_of s (Whole (Slice n)) = count_sliced s.now.debuggee.program (sliced histories n s).moved
count_of s (Whole Connect) = recorded_of s.now.debuggee.program
count_of s (Whole (Recv piece)) = recorded_of s.now.debuggee.program
count_of s (Whole Hold) = recorded_of s.now.debuggee.program
count_of s (Whole (Sent n)) = recorded_of s.now.debuggee.program
count_of s (Whole DropConnection) = recorded_of s.now.debuggee.program
count_of s (Cut n count) = count_sliced s.now.debuggee.program (beats histories n count s).moved

-- That many are recorded after each event, and after each slice that was cut.
abbrev pub EventsAreCounted : Session → Type 0
EventsAreCounted s = (x : Happened) → recorded_of (leaves s x).now.debuggee.program ≡ count_of s x
