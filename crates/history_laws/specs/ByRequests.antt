-- Back and forth by requests (DAP specification, `StepBackRequest`, `StepInRequest`, `SteppingGranularity`).
--
-- An editor steps back k times, and then steps in k times by instruction. Then the machine is the one that it was:
-- its hart, its memory and its calls, the moves that are recorded, how many instructions have retired, and all of these. Each
-- step forth makes the move again that a step back undid, and prints what that move prints.
--
-- A step is a success of its request, and what happens then until the program stands still for a reason of its machine: so no
-- mark and no limit stopped it. The program may be given time, bytes may come and be taken, whoever gives it time may
-- hold it, and requests may be answered that leave it as it is, as those do that look in.
use Rattle.std.specs.Prelude.{◌≡◌, ℕ, zero, suc, ◌+◌, true, false, List, [], ◌∷◌, ◌++◌, Option, Some, None, ⊤}
use Rattle.course.specs.Positions.{Position}
use Rattle.debuggee.specs.Programs.{Program, next_tick, resumed}
use Rattle.debuggee.specs.declared.run.Run.TheVariants.{Stopped as StandsStill}
use Rattle.debuggee.specs.declared.run.Why.TheVariants as why
use Rattle.handlers.specs.Stepping.{granularity_of}
use Rattle.history_laws.specs.Again.{MovesSaying, printed_by}
use Rattle.history_laws.specs.GoingBack.{OfProgram}
use Rattle.protocol.specs.declared.command.Command.{Command}
use Rattle.protocol.specs.declared.command.Command.TheVariants.{StepBack, StepIn}
use Rattle.queues.specs.declared.pending.Ask.{Ask}
use Rattle.queues.specs.declared.pending.Ask.TheVariants.{Request, Bad}
use Rattle.rv32i.specs.declared.stepped.Stepped.{Stepped}
use Rattle.session.specs.Kinds.{is_success}
use Rattle.session.specs.Reached.{Happened, Whole, Cut, Reached, leaves, led_to}
use Rattle.session.specs.Sessions.{Beginning, Session, histories}
use Rattle.session.specs.declared.event.Event.TheVariants.{Connect, Recv, Turn, Slice, Hold, Sent, DropConnection}
use Rattle.session_laws.specs.Retiring.{begins_anew, retired_of}
use Rattle.session_laws.specs.Turns.{Answered, answered}
use Rattle.stepping.specs.Leading.{back}
use Rattle.stepping.specs.Ticks.{course_of}
use Rattle.stepping.specs.declared.goal.Goal.{Goal}
use Rattle.stepping.specs.declared.goal.Goal.TheVariants.{Back, In}
use Rattle.stepping.specs.declared.goal.Granularity.TheVariants.{Instruction as Single}
use Rattle.stepping.specs.declared.tick.Reason.{Reason}

-- ---- a step

-- one move back, or one forth
pub data Direction : Type 0 where
  Backward : Direction
  Forward : Direction

-- the goal that it gives the program
abbrev pub goal_by : Direction → Goal
goal_by Backward = Back
goal_by Forward = In Single

-- the request that asks for it
abbrev pub Asks : Direction → Command → Type 0
Asks Backward (StepBack arguments) = ⊤
Asks Backward other = ⊥
Asks Forward (StepIn arguments) = granularity_of arguments.granularity ≡ Single
Asks Forward other = ⊥

abbrev pub AsksFor : Direction → Ask → Type 0
AsksFor direction (Request r) = Asks direction r.command
AsksFor direction (Bad seq name refusal) = ⊥

-- a request that is answered, if one is, leaves the program as it is, and loads none
abbrev pub LeavesProgram : Option Answered → Option Program → Type 0
LeavesProgram None program = ⊤
LeavesProgram (Some a) program = (begins_anew a ≡ false) × (a.answer.debuggee.program ≡ program)

-- what may happen while a step is made, and after it
abbrev pub IsQuiet : Session → Happened → Type 0
IsQuiet s (Whole Connect) = ⊥
IsQuiet s (Whole (Recv piece)) = ⊤
IsQuiet s (Whole (Turn file)) =
    LeavesProgram (answered (histories.see s) file) s.now.debuggee.program
IsQuiet s (Whole (Slice n)) = ⊤
IsQuiet s (Whole Hold) = ⊤
IsQuiet s (Whole (Sent n)) = ⊤
IsQuiet s (Whole DropConnection) = ⊥
IsQuiet s (Cut n count) = ⊤

abbrev pub AreQuiet : List Happened → Session → Type 0
AreQuiet [] s = ⊤
AreQuiet (x ∷ happened) s = IsQuiet s x × AreQuiet happened (leaves s x)

-- it stands still for a reason of its machine
abbrev pub HasMet : Program → Type 0
HasMet p = (reason : Reason) × (p.run ≡ StandsStill (why.Met reason))

-- a turn answers a request for a step with success, and after what happens then the step is made
pub record IsStep (direction : Direction) (s : Session) (happened : List Happened) : Type 0 where
  pub file : Option (List ℕ)
  pub request : Answered
  pub after : List Happened
  pub are : happened ≡ Whole (Turn file) ∷ after
  pub answers : answered (histories.see s) file ≡ Some request
  pub asks : AsksFor direction request.request.ask
  pub success : is_success request.answer.outcome ≡ true
  pub quiet : AreQuiet after (leaves s (Whole (Turn file)))
  pub ends : OfProgram HasMet (led_to happened s).now.debuggee.program

-- this many, one directly after the other
abbrev pub Steps : Direction → ℕ → Session → List Happened → Type 0
Steps direction zero s happened = happened ≡ []
Steps direction (suc k) s happened =
    (first : List Happened) × (rest : List Happened) × ((happened ≡ first ++ rest)
    × (IsStep direction s first × Steps direction k (led_to first s) rest))

-- ---- the laws

-- the machine of a program is that of another: hart, memory, calls and what is recorded; and as many have retired
abbrev pub IsWhereItWas : Program → Program → Type 0
IsWhereItWas p q =
    (course_of q.machine ≡ course_of p.machine) × (q.machine.retired ≡ p.machine.retired)

-- After k steps back and k steps forth the program is where it was, and the same instructions have retired.
abbrev pub ThereAndBack : Type 0
ThereAndBack = (from : Beginning) (before there again : List Happened) (k : ℕ) (p : Program)
    → (Reached from before).now.debuggee.program ≡ Some p
    → Steps Backward k (Reached from before) there
    → Steps Forward k (Reached from (before ++ there)) again
    → OfProgram (IsWhereItWas p) (Reached from (before ++ there ++ again)).now.debuggee.program
    × (retired_of from (before ++ there ++ again) ≡ retired_of from before)

-- the next step forth makes the move of the hart from one position to the other, and prints what that answers
abbrev pub MakesAgain : Position → Position → Program → Type 0
MakesAgain here next q = (answer : Stepped) × (MovesSaying answer here next
    × (printed_by answer ≡ (next_tick (resumed (goal_by Forward) q)).printed))

-- Of k + j + 1 steps back k are made forth again: then the next step forth makes the move again that step j + 1 back undid.
abbrev pub PrintsAgain : Type 0
PrintsAgain = (from : Beginning) (before there again : List Happened) (k j : ℕ) (p : Program)
    → (Reached from before).now.debuggee.program ≡ Some p
    → Steps Backward (k + suc j) (Reached from before) there
    → Steps Forward k (Reached from (before ++ there)) again
    → (let c = course_of p.machine in OfProgram (MakesAgain (back (suc j) c).now (back j c).now)
    (Reached from (before ++ there ++ again)).now.debuggee.program)
