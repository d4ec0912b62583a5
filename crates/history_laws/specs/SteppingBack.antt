-- A step back (DAP specification, `StepBackRequest`).
--
-- The program steps back from where it stood. Whatever happens then (time that it is given, breakpoints that are set,
-- requests that are refused, a `pause`, an editor that goes and another that comes), one of three things is so after each
-- event: it still runs towards its stop, and nothing is undone yet, or one move is, and its stop is not told yet; or it
-- stands one move earlier, with the reason `step`; or a mark, or the editor that left, has stopped it before a move was
-- undone, and it stands where it stood, with the reason `pause`. That ends where a success of a request has the program
-- begin anew, or end.
--
-- One move earlier is where one move less than is recorded leads from the oldest recorded position.
use Rattle.std.specs.Prelude.{◌≡◌, ◌≢◌, ◌⊎◌, ℕ, suc, Bool, true, false, ◌&&◌, List, [], ◌∷◌, length, Option, Some, None, ⊤, refl}
use Rattle.course.specs.Positions.{Course, gone_back}
use Rattle.debuggee.specs.Programs.{Program, is_ended}
use Rattle.debuggee.specs.declared.run.Mark.TheVariants.{Entry as MarkEntry}
use Rattle.debuggee.specs.declared.run.Run.TheVariants.{Running, Stopped as StandsStill}
use Rattle.debuggee.specs.declared.run.Why.TheVariants as why
use Rattle.handlers.specs.Telling.{reason_of}
use Rattle.message_parts.specs.declared.stopped.Reason.TheVariants as reason
use Rattle.protocol.specs.declared.disconnect.TheConstants.{NAME as DISCONNECT}
use Rattle.session.specs.declared.event.Event.{Event}
use Rattle.session.specs.declared.event.Event.TheVariants.{Connect, Recv, Turn, Slice, Hold, Sent, DropConnection}
use Rattle.queues.specs.declared.pending.Ask.{Ask}
use Rattle.queues.specs.declared.pending.Ask.TheVariants.{Request, Bad}
use Rattle.session.specs.Kinds.{is_success}
use Rattle.session.specs.Reached.{Happened, OfEvent, leaves}
use Rattle.session.specs.Sessions.{Session, histories}
use Rattle.session_laws.specs.Laws.{succeeds}
use Rattle.session_laws.specs.Intents.{Intent, Load, LoadAnew, Begin, End, Change, GoBack, Other, intent_of}
use Rattle.session_laws.specs.Turns.{Answered, answered}
use Rattle.stepping.specs.Leading.{Makes, PastLeads, oldest}
use Rattle.stepping.specs.Ticks.{course_of}
use Rattle.stepping.specs.declared.goal.Goal.TheVariants.{Back}
use Rattle.stepping.specs.declared.tick.Outcome.TheVariants.{Stopped}
use Rattle.stepping.specs.declared.tick.Reason.TheVariants as met
use Rattle.stepping.specs.declared.tick.Tick.{Tick}
use Rattle.history_laws.specs.GoingBack.{GoesBackFrom, OfProgram}

-- ---- where it is

-- what is told of a step back that was made
abbrev pub step_made : Tick
step_made = record { printed = None; outcome = Stopped met.Goal }

-- no move is undone yet; or one is, and that is to be told
abbrev pub IsUnderWay : Course → Program → Option Tick → Type 0
IsUnderWay from p None = course_of p.machine ≡ from
IsUnderWay from p (Some tick) = (tick ≡ step_made) × (course_of p.machine ≡ gone_back from)

-- It still runs towards its stop.
pub record StepsBack (from : Course) (p : Program) : Type 0 where
  pub runs : p.run ≡ Running
  pub goal : p.machine.goal ≡ Back
  pub due : p.machine.check_due ≡ false
  pub mark : p.mark ≢ Some MarkEntry
  pub way : IsUnderWay from p p.owed

-- It stands one move earlier; or a mark has stopped it where it stood. Nothing is left to be told.
abbrev pub HasSteppedBack : Course → Program → Type 0
HasSteppedBack from p = (p.owed ≡ None)
    × (((p.run ≡ StandsStill (why.Met met.Goal)) × (course_of p.machine ≡ gone_back from))
    ⊎ ((p.run ≡ StandsStill why.Pause) × (course_of p.machine ≡ from)))

-- what an editor is told of these stops (`StoppedEvent`)
one_move_earlier : reason_of (why.Met met.Goal) ≡ reason.Step
one_move_earlier = refl

where_it_stood : reason_of why.Pause ≡ reason.Pause
where_it_stood = refl

-- ---- until when

-- whether a success of a request has the program begin anew, or end
abbrev pub starts_or_ends : Intent → Bool
starts_or_ends Load = true
starts_or_ends LoadAnew = true
starts_or_ends Begin = true
starts_or_ends End = true
starts_or_ends Change = false
starts_or_ends (GoBack goal) = false
starts_or_ends Other = false

abbrev pub asks_to_start_or_end : Ask → Bool
asks_to_start_or_end (Request r) = starts_or_ends (intent_of r.command)
asks_to_start_or_end (Bad seq name refusal) = false

-- the program has ended
abbrev pub HasEnded : Option Program → Type 0
HasEnded program = OfProgram (λ p. is_ended p.run ≡ true) program

-- a `disconnect` may end it too, and need not
abbrev pub StartsOrEnds : Option Answered → Type 0
StartsOrEnds None = ⊥
StartsOrEnds (Some a) = ((asks_to_start_or_end a.request.ask && is_success a.answer.outcome) ≡ true)
    ⊎ ((succeeds DISCONNECT.now a ≡ true) × HasEnded a.answer.debuggee.program)

-- the program begins anew, or ends, by a request that this event answers
abbrev pub IsStartedOrEnded : Session → Event → Type 0
IsStartedOrEnded s (Turn file) = StartsOrEnds (answered (histories.see s) file)
IsStartedOrEnded s Connect = ⊥
IsStartedOrEnded s (Recv piece) = ⊥
IsStartedOrEnded s (Slice n) = ⊥
IsStartedOrEnded s Hold = ⊥
IsStartedOrEnded s (Sent n) = ⊥
IsStartedOrEnded s DropConnection = ⊥

-- ---- the law

-- After each of these it has stepped back, or still runs towards that; until then, or until the program begins anew or
-- ends.
abbrev pub StepsBackIn : Course → List Happened → Session → Type 0
StepsBackIn from [] s = ⊤
StepsBackIn from (x ∷ happened) s = OfEvent (IsStartedOrEnded s) x
    ⊎ (OfProgram (HasSteppedBack from) (leaves s x).now.debuggee.program
    ⊎ (OfProgram (StepsBack from) (leaves s x).now.debuggee.program × StepsBackIn from happened (leaves s x)))

-- So it is where a step back begins, whatever happens then.
abbrev pub StepsGoOneBack : Session → Type 0
StepsGoOneBack s = (from : Course) → OfProgram (GoesBackFrom Back from) s.now.debuggee.program →
    (happened : List Happened) → StepsBackIn from happened s

-- One move earlier is what one move less makes of the oldest recorded position, and one less is recorded.
abbrev pub OneEarlier : Type 0
OneEarlier = (from : Course) (n : ℕ) → PastLeads from → length from.past ≡ suc n →
    Makes n (oldest from) (gone_back from).now × (length (gone_back from).past ≡ n)
