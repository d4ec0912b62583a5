-- A slice: the program that is debugged is given time for a number of moves.
--
-- A slice goes beat by beat. A beat does its acts, and continues or ends the slice. What is owed is told first, and that
-- ends the slice where it stops the program. Where the program does not run, or its editor has not said all, there is
-- nothing to do. Then, before each move: the slice ends where more than 65,536 bytes wait; a program that is marked
-- stops; in a first run the breakpoints at the entry are looked at; the slice ends where all its moves were made; and
-- the program stops where as many instructions have retired as may, unless it goes back.
--
-- A move whose instruction retires, or is undone, leaves what is to be told of it, which the next beat tells: a number
-- that it printed, what the logpoints say that it reached (Debug Adapter Protocol, `logMessage`), in the order of their
-- list, and then its stop. One that traps, or ends the program, leaves nothing: the stop or the end is made and told at
-- once.
--
-- Only an editor that has said all is told.
use Rattle.std.specs.Prelude.{◌≡◌, ℕ, ℤ, nat_lt, nat_le, Bool, true, false, ◌&&◌, not, if◌then◌else◌, List, [], ◌∷◌}
use Rattle.std.specs.Prelude.{◌++◌, map, filter_map, Option, Some, None}
use Rattle.breakpoints.specs.Stops.{Lists, log_at}
use Rattle.debuggee.specs.Programs.{Program, ended, entered, is_running, moved, next_tick, stopped, told}
use Rattle.debuggee.specs.Programs.{why_marked}
use Rattle.debuggee.specs.declared.run.Mark.{Mark}
use Rattle.debuggee.specs.declared.run.Run.{Run}
use Rattle.debuggee.specs.declared.run.Why.{Why}
use Rattle.debuggee.specs.declared.run.Why.TheVariants as why
use Rattle.replies.specs.declared.event.Event.{Event}
use Rattle.session.specs.declared.event.SliceEnd.{SliceEnd}
use Rattle.session.specs.declared.event.SliceEnd.TheVariants as ending
use Rattle.session.specs.declared.link.Link.{Link}
use Rattle.session.specs.declared.state.TheConstants.{FULL}
use Rattle.session.specs.Acts.{Now, Seen, Act, Become, Tell}
use Rattle.session.specs.Phases.{is_active, is_configuring}
use Rattle.handlers.specs.Telling.{exit_events, log_event, output_event, stop_event}
use Rattle.stepping.specs.Goals.{turns_back}
use Rattle.stepping.specs.declared.tick.Outcome.{Outcome}
use Rattle.stepping.specs.declared.tick.Outcome.TheVariants.{Went, Stopped, Ended}
use Rattle.stepping.specs.declared.tick.Reason.TheVariants as met
use Rattle.stepping.specs.declared.tick.Tick.{Tick}

-- ---- what is told

-- the program is now this
abbrev pub becomes : Now → Program → Act
becomes now p = Become (record now.debuggee { program = Some p })

-- the editor is told this, if it has said all
abbrev pub tells : Now → List Event → List Act
tells now events = if is_active now.link then map Tell events else []

-- the program stops, and the editor is told
abbrev pub halts : Now → Program → Why → List ℕ → List Act
halts now p why ids = becomes now (stopped why p) ∷ tells now (stop_event why ids ∷ [])

-- it ends with a code, and the editor is told
abbrev pub exits : Now → Program → ℤ → List Act
exits now p code = becomes now (ended (Some code) p) ∷ tells now (exit_events code)

-- what was printed
abbrev pub printed_events : Option ℤ → List Event
printed_events None = []
printed_events (Some number) = output_event number ∷ []

-- what the logpoints say that the last look reached, in the order of their list
abbrev pub logged : Lists → List (List ℕ)
logged lists = filter_map (log_at lists) lists.logs

-- the output of a tick: what was printed, and then what logpoints say
abbrev pub output_events : Option ℤ → List (List ℕ) → List Event
output_events printed texts = printed_events printed ++ map log_event texts

-- what a tick came to is made, and told
abbrev pub concludes : Now → Program → Outcome → List ℕ → List Act
concludes now p Went ids = []
concludes now p (Stopped reason) ids = halts now p (why.Met reason) ids
concludes now p (Ended code) ids = exits now p code

-- what a tick left is told: its output while the program still runs, and then why it stops, if it does
abbrev pub telling : Now → Program → Tick → List Act
telling now p tick =
    becomes now (told p) ∷ (tells now (output_events tick.printed (logged p.machine.lists))
    ++ concludes now (told p) tick.outcome p.machine.lists.ids)

-- ---- beats

-- what it does, how many moves are made in it, and how it ends the slice, if it does
pub record Beat : Type 0 where
  pub acts : List Act
  pub moved : ℕ
  pub ending : Option SliceEnd

-- nothing but the end of the slice
abbrev pub ends : SliceEnd → Beat
ends e = record { acts = []; moved = 0; ending = Some e }

-- how what a tick came to ends it
abbrev pub ending_of : Outcome → Option SliceEnd
ending_of Went = None
ending_of (Stopped reason) = Some ending.Stopped
ending_of (Ended code) = Some ending.Ended

-- the program stops, and no breakpoint is named
abbrev pub stops : Now → Program → Why → Beat
stops now p why = record { acts = halts now p why []; moved = 0; ending = Some ending.Stopped }

-- a move is made: an instruction retires, or the last one that did is undone
abbrev pub makes_move : Now → Program → Beat
makes_move now p = record { acts = becomes now (moved p) ∷ []; moved = 1; ending = None }

-- a move, by what its tick comes to
abbrev pub moves_by : Now → Program → Outcome → Beat
moves_by now p Went = makes_move now p
moves_by now p (Stopped (met.Exception cause)) = stops now p (why.Met (met.Exception cause))
moves_by now p (Stopped met.Ebreak) = makes_move now p
moves_by now p (Stopped met.Source) = makes_move now p
moves_by now p (Stopped met.Instruction) = makes_move now p
moves_by now p (Stopped met.Function) = makes_move now p
moves_by now p (Stopped met.Goal) = makes_move now p
moves_by now p (Stopped met.Start) = makes_move now p
moves_by now p (Ended code) = record { acts = exits now p code; moved = 0; ending = Some ending.Ended }

abbrev pub moves : Now → Program → Beat
moves now p = moves_by now p (next_tick p).outcome

-- whether as many instructions have retired as may; a program that goes back retires none
abbrev pub is_at_limit : Now → Program → Bool
is_at_limit now p = not (turns_back p.machine.goal) && nat_le now.limits.last_retired p.machine.retired

-- where nothing is owed and nothing is marked: whether the slice has more moves to make decides
abbrev pub goes : Now → Program → Bool → Beat
goes now p more =
    if p.machine.check_due then record { acts = becomes now (entered p) ∷ []; moved = 0; ending = None }
    else if not more then ends ending.Spent
    else if is_at_limit now p then stops now p why.Limit
    else moves now p

abbrev pub goes_unless : Option Mark → Now → Program → Bool → Beat
goes_unless (Some mark) now p more = stops now p (why_marked mark)
goes_unless None now p more = goes now p more

-- whether the program is given time
abbrev pub is_runnable_by : Option Link → Run → Bool
is_runnable_by link run = is_running run && not (is_configuring link)

-- where nothing is owed
abbrev pub runs : Seen → Program → Bool → Beat
runs seen p more =
    if not (is_runnable_by seen.now.link p.run) then ends ending.Idle
    else if nat_lt FULL seen.waits then ends ending.Full
    else goes_unless p.mark seen.now p more

abbrev pub beat_by : Option Tick → Seen → Program → Bool → Beat
beat_by (Some tick) seen p more =
    record { acts = telling seen.now p tick; moved = 0; ending = ending_of tick.outcome }
beat_by None seen p more = runs seen p more

abbrev pub beat_of : Option Program → Seen → Bool → Beat
beat_of None seen more = ends ending.Idle
beat_of (Some p) seen more = beat_by p.owed seen p more

-- one beat of a slice, which has more moves to make, or not
abbrev pub beat : Seen → Bool → Beat
beat seen more = beat_of seen.now.debuggee.program seen more

-- A move comes next, if the slice has one more to make: nothing else does.
pub record IsFree (p : Program) (seen : Seen) : Type 0 where
  pub program : seen.now.debuggee.program ≡ Some p
  pub owed : p.owed ≡ None
  pub runnable : is_runnable_by seen.now.link p.run ≡ true
  pub room : nat_lt FULL seen.waits ≡ false
  pub mark : p.mark ≡ None
  pub due : p.machine.check_due ≡ false
  pub few : is_at_limit seen.now p ≡ false

-- whether a slice would do something
abbrev pub is_runnable_of : Option Link → Option Program → Bool
is_runnable_of link None = false
is_runnable_of link (Some p) = is_runnable_by link p.run

abbrev pub is_runnable : Now → Bool
is_runnable now = is_runnable_of now.link now.debuggee.program
