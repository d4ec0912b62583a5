-- What a success of `stepBack` or of `reverseContinue` begins (DAP specification, `StepBackRequest`, `ReverseContinueRequest`).
--
-- The program runs then, and goes back: by one move, or until it stops on its way. It goes from where it stands. At least
-- one move is recorded, nothing is left to be told, and nothing marks the program to stop.
use Rattle.std.specs.Prelude.{◌≡◌, ℕ, ◌≤◌, false, true, List, length, Option, Some, None, MatchOption, ⊤}
use Rattle.course.specs.Positions.{Course}
use Rattle.debuggee.specs.Programs.{Program}
use Rattle.debuggee.specs.declared.run.Run.TheVariants.{Running}
use Rattle.session.specs.declared.event.Event.TheVariants.{Turn}
use Rattle.queues.specs.declared.pending.Ask.{Ask}
use Rattle.queues.specs.declared.pending.Ask.TheVariants.{Request, Bad}
use Rattle.session.specs.Kinds.{is_success}
use Rattle.session.specs.Sessions.{Effect, Session, histories}
use Rattle.session_laws.specs.Intents.{Intent, Load, LoadAnew, Begin, End, Change, GoBack, Other, intent_of}
use Rattle.session_laws.specs.Turns.{Answered, answered}
use Rattle.stepping.specs.Ticks.{course_of}
use Rattle.stepping.specs.declared.goal.Goal.{Goal}

-- there is a program, and this is so of it
abbrev pub OfProgram : (Program → Type 0) → Option Program → Type 0
OfProgram P program = MatchOption program ⊥ P

-- it goes back with this goal from where its machine is now, its past known
pub record GoesBackFrom (goal : Goal) (from : Course) (p : Program) : Type 0 where
  pub runs : p.run ≡ Running
  pub goes : p.machine.goal ≡ goal
  pub due : p.machine.check_due ≡ false
  pub owed : p.owed ≡ None
  pub mark : p.mark ≡ None
  pub course : course_of p.machine ≡ from
  pub some : 1 ≤ length from.past

-- the goal that a request gives the program, where it has it go back
abbrev pub goal_of : Intent → Option Goal
goal_of (GoBack goal) = Some goal
goal_of Load = None
goal_of LoadAnew = None
goal_of Begin = None
goal_of End = None
goal_of Change = None
goal_of Other = None

abbrev pub goal_asked : Ask → Option Goal
goal_asked (Request r) = goal_of (intent_of r.command)
goal_asked (Bad seq name refusal) = None

-- the program, which was this, goes back after a success that gives it such a goal
abbrev pub BeginsBack : Option Answered → Option Program → Option Program → Type 0
BeginsBack None before after = ⊤
BeginsBack (Some a) before after = (goal : Goal) → goal_asked a.request.ask ≡ Some goal → is_success a.answer.outcome ≡ true →
    OfProgram (λ p. OfProgram (GoesBackFrom goal (course_of p.machine)) after) before

-- After a turn that answers `stepBack` or `reverseContinue` with success the program goes back from where it stood.
abbrev pub TurnsBeginBack : Session → Type 0
TurnsBeginBack s = (file : Option (List ℕ)) → BeginsBack (answered (histories.see s) file) s.now.debuggee.program
    (Effect s (Turn file)).now.debuggee.program
