-- `disconnect`: the end of a connection (DAP specification, `DisconnectRequest`, `DisconnectArguments`).
--
-- The editor's breakpoints go, and what it marked. Once it debugs a program, the request decides what becomes of that:
-- one that has ended stays so; another ends where that is asked for, and where nothing is said, if this editor launched
-- it; else it is to stand still, where that is asked for; else it continues.
use Rattle.std.specs.Prelude.{Bool, true, false, ◌&&◌, not, if◌then◌else◌, [], Option, Some, None}
use Rattle.debuggee.specs.Programs.{Program, ended, is_ended, is_running, left, stopped, with_program}
use Rattle.debuggee.specs.declared.run.Why.TheVariants as why
use Rattle.protocol.specs.declared.disconnect.DisconnectArguments.{DisconnectArguments}
use Rattle.replies.specs.declared.response.Outcome.TheVariants.{Done}
use Rattle.replies.specs.declared.response.ResponseBody.TheVariants as body
use Rattle.variables.specs.Laws.Call.{EndStop}
use Rattle.handlers.specs.declared.phase.Phase.TheVariants.{Left}
use Rattle.handlers.specs.declared.terms.Terms.{Terms}
use Rattle.handlers.specs.declared.demand.Demand.{Demand}
use Rattle.handlers.specs.Demands.{asks_nothing}
use Rattle.handlers.specs.Given.{Answering, Given}
use Rattle.handlers.specs.Phases.{is_debugging_in}

-- in which phases it is taken, and what it asks of the program
abbrev pub demand : Demand
demand = asks_nothing

-- what is asked for, where it is said
abbrev pub said_or : Option Bool → Bool → Bool
said_or None other = other
said_or (Some asked) other = asked

-- whether the program is to end, and whether it is to stand still
abbrev pub is_to_end : Terms → DisconnectArguments → Bool
is_to_end terms arguments = is_debugging_in terms.phase && said_or arguments.terminate_debuggee terms.launched

abbrev pub is_to_stand : Terms → DisconnectArguments → Bool
is_to_stand terms arguments = is_debugging_in terms.phase && said_or arguments.suspend_debuggee false

-- the program that the editor leaves
abbrev pub departed : Bool → Bool → Program → Program
departed ends stands p =
    if ends && not (is_ended p.run) then ended None p
    else if stands && is_running p.run then stopped why.Pause p
    else p

-- the answer, and what it changes
abbrev pub success : Given → Terms → DisconnectArguments → Answering
success given terms arguments = record {
  debuggee =
      with_program (λ p. departed (is_to_end terms arguments) (is_to_stand terms arguments) (left p)) given.debuggee;
  references = Some EndStop;
  terms = record terms { phase = Left };
  outcome = Done body.Empty;
  events = [];
  closes = true;
}
