-- The answer to a request that sets breakpoints (DAP specification, `SetBreakpointsRequest`,
-- `SetFunctionBreakpointsRequest`, `SetInstructionBreakpointsRequest`).
--
-- The request is answered by what there is of the program: its lines and labels, the path of its file and the size of its
-- memory. Breakpoints that are set get the next numbers, which rise for as long as the server lives. Where they would
-- pass the greatest number, nothing is set.
use Rattle.std.specs.Prelude.{ℕ, ◌+◌, nat_lt, false, if◌then◌else◌, List, [], length, Option, Some, None, Result, Ok, Err}
use Rattle.answers.specs.Answers.{breaks_answer}
use Rattle.breakpoints.specs.Stops.{Wanted}
use Rattle.debuggee.specs.Programs.{Program, on_program, with_functions, with_instructions, with_source}
use Rattle.protocol.specs.declared.command.Command.{Command}
use Rattle.protocol.specs.declared.command.Command.TheVariants.{SetBreakpoints, SetFunctionBreakpoints}
use Rattle.protocol.specs.declared.command.Command.TheVariants.{SetInstructionBreakpoints}
use Rattle.protocol.specs.declared.refusal.Refusal.{Refusal}
use Rattle.protocol.specs.declared.refusal.Refusal.TheVariants.{ReferencesExhausted}
use Rattle.replies.specs.declared.response.Outcome.TheVariants.{Done}
use Rattle.replies.specs.declared.response.ResponseBody.{ResponseBody}
use Rattle.replies.specs.declared.response.ResponseBody.TheVariants as body
use Rattle.handlers.specs.declared.terms.Terms.{Terms}
use Rattle.handlers.specs.Given.{Answering, Given}
use Rattle.handlers.specs.Views.{view_of}
use Rattle.handlers.specs.Successes.{agreeing, refusing}

-- breakpoints that are set, and the last number that was given with them
pub record Numbered : Type 0 where
  pub list : List Wanted
  pub last : ℕ

-- the program with this list in place of the one of the same kind
abbrev pub with_list : Command → List Wanted → Program → Program
with_list (SetBreakpoints arguments) list p = with_source list p
with_list (SetFunctionBreakpoints arguments) list p = with_functions list p
with_list (SetInstructionBreakpoints arguments) list p = with_instructions list p
with_list other list p = p

-- a list is replaced
abbrev pub replaces : Given → Terms → Command → ResponseBody → Numbered → Answering
replaces given terms command body breaks = record {
  debuggee = record { program = on_program (with_list command breaks.list) given.debuggee.program; last_break = breaks.last };
  references = None;
  terms = terms;
  outcome = Done body;
  events = [];
  closes = false;
}

-- a list is replaced, unless the numbers are used up; or none is
abbrev pub sets : Given → Terms → Command → ResponseBody → Option (List Wanted) → Answering
sets given terms command body None = agreeing given terms body
sets given terms command body (Some list) = let last = given.debuggee.last_break + length list in
    if nat_lt given.last_ref last then refusing given terms ReferencesExhausted None
    else replaces given terms command body (record { list = list; last = last })

-- by what is answered
abbrev pub sets_by : Given → Terms → Command → Result ResponseBody Refusal → Option (List Wanted) → Answering
sets_by given terms command (Ok body) list = sets given terms command body list
sets_by given terms command (Err refusal) list = refusing given terms refusal None

-- the answer, by the program
abbrev pub success_on : Option Program → Given → Terms → Command → Answering
success_on None given terms command = agreeing given terms body.Empty
success_on (Some p) given terms command =
    let answer = breaks_answer command p.image.lines p.machine.size (view_of terms p) (given.debuggee.last_break + 1) in
    sets_by given terms command answer.result answer.list

-- the answer, and what it changes
abbrev pub success : Given → Terms → Command → Answering
success given terms command = success_on given.debuggee.program given terms command
