-- What the code of an answer changes, and the answer that it represents.
use Rattle.std.specs.Prelude.{List, [], ◌∷◌, length, Option, Some, None, ⊤}
use Rattle.debuggee.specs.Programs.{Debuggee, Program, ended, first_run, left, marked, on_program, restarted, resumed, with_functions}
use Rattle.debuggee.specs.Programs.{with_hart, with_instructions, with_program, with_source, written}
use Rattle.image.specs.Memory.{NeedsPage}
use Rattle.replies.specs.declared.event.Event.{Event as AnEvent}
use Rattle.handlers.specs.declared.answer.Answer.{Answer as AnAnswer}
use Rattle.handlers.specs.declared.change.Change.{Change}
use Rattle.handlers.specs.declared.change.Change.TheVariants as change
use Rattle.handlers.specs.declared.change.ProgramChange.{ProgramChange}
use Rattle.handlers.specs.declared.change.ProgramChange.TheVariants as one
use Rattle.handlers.specs.Disconnect.{departed}
use Rattle.handlers.specs.Given.{Answering}
use Rattle.variables.specs.Laws.{Call}
use Rattle.variables.specs.Laws.Call.{EndStop, Issue}

-- what a change makes of a program
abbrev pub changed_one : ProgramChange → Program → Program
changed_one one.Begin p = first_run p
changed_one (one.Resume goal) p = resumed goal p
changed_one (one.Mark mark) p = marked mark p
changed_one (one.SetHart hart) p = with_hart hart p
changed_one (one.Write address bytes) p = written address bytes.items p
changed_one one.Restart p = first_run (restarted p)
changed_one one.End p = ended None p
changed_one (one.Leave ends stands) p = departed ends stands (left p)

-- A change may find no memory: to load a program anew, or for a page that is written first.
abbrev pub MayLack : ProgramChange → Program → Type 0
MayLack one.Begin p = ⊥
MayLack (one.Resume goal) p = ⊥
MayLack (one.Mark mark) p = ⊥
MayLack (one.SetHart hart) p = ⊥
MayLack (one.Write address bytes) p = NeedsPage 1 p.machine.memory address (length bytes.items)
MayLack one.Restart p = ⊤
MayLack one.End p = ⊥
MayLack (one.Leave ends stands) p = ⊥

-- what it makes of the one that is debugged
abbrev pub changed : Change → Debuggee → Debuggee
changed change.Nothing d = d
changed (change.Load program) d = record d { program = Some program }
changed (change.SetSource breaks) d =
    record { program = on_program (with_source breaks.list) d.program; last_break = breaks.last }
changed (change.SetInstructions breaks) d =
    record { program = on_program (with_instructions breaks.list) d.program; last_break = breaks.last }
changed (change.SetFunctions breaks) d =
    record { program = on_program (with_functions breaks.list) d.program; last_break = breaks.last }
changed (change.Issue targets) d = d
changed (change.OfProgram c) d = with_program (changed_one c) d

-- the events of an answer in the code
abbrev pub events_of : Option AnEvent → List AnEvent
events_of None = []
events_of (Some event) = event ∷ []

-- what becomes of the references with a change
abbrev pub call_of_one : ProgramChange → Option Call
call_of_one one.Begin = None
call_of_one (one.Resume goal) = Some EndStop
call_of_one (one.Mark mark) = None
call_of_one (one.SetHart hart) = None
call_of_one (one.Write address bytes) = None
call_of_one one.Restart = Some EndStop
call_of_one one.End = None
call_of_one (one.Leave ends stands) = Some EndStop

abbrev pub call_of : Change → Option Call
call_of change.Nothing = None
call_of (change.Load program) = None
call_of (change.SetSource breaks) = None
call_of (change.SetInstructions breaks) = None
call_of (change.SetFunctions breaks) = None
call_of (change.Issue targets) = Some (Issue targets.items)
call_of (change.OfProgram c) = call_of_one c

-- the answer that one in the code represents, where this is debugged
abbrev pub answering_as : Debuggee → AnAnswer → Answering
answering_as d a = record {
  debuggee = changed a.change d;
  references = call_of a.change;
  terms = a.terms;
  outcome = a.outcome;
  events = events_of a.event;
  closes = a.closes;
}
