-- What `setFunctionBreakpoints` answers (DAP specification, `SetFunctionBreakpointsRequest`).
--
-- A function is a label of the program, and the breakpoint is at its address. Spaces round the name are left out. An
-- instruction has to be possible there, as for a breakpoint at an address: a label may also be that of data.
use Rattle.std.specs.Prelude.{ℕ, nat_lt, if◌then◌else◌, length, Option, Some, None, Result, Ok, Err}
use Rattle.image.specs.Lines.{Table, label_address}
use Rattle.protocol.specs.declared.refusal.Refusal.TheVariants.{TooMuch}
use Rattle.protocol.specs.declared.set_function_breakpoints.FunctionBreakpoint.{FunctionBreakpoint}
use Rattle.protocol.specs.declared.set_function_breakpoints.SetFunctionBreakpointsArguments as given
use Rattle.replies.specs.declared.response.ResponseBody.TheVariants.{SetFunctionBreakpoints}
use Rattle.answers.specs.Breakpoints.{Answer, entries_of, list_of}
use Rattle.answers.specs.Conditions.{Conditions, conditions_of}
use Rattle.answers.specs.SetInstructionBreakpoints.{Place, entry, is_instructions, wanted}
use Rattle.answers.specs.Spaces.{trimmed}
use Rattle.answers.specs.declared.problem.Problem.{Problem}
use Rattle.answers.specs.declared.problem.Problem.TheVariants.{UnknownFunction, BadAddress}

-- the texts are looked at before the name, and the name before its address
abbrev pub placed : ℕ → Result Conditions Problem → Option ℕ → Result Place Problem
placed size (Err problem) found = Err problem
placed size (Ok conditions) None = Err UnknownFunction
placed size (Ok conditions) (Some address) =
    if is_instructions size address then Ok (record { address = address; conditions = conditions }) else Err BadAddress

-- whether a breakpoint can be set, and where
abbrev pub judged : Table → ℕ → FunctionBreakpoint → Result Place Problem
judged table size asked =
    placed size (conditions_of asked.condition asked.hit_condition) (label_address table (trimmed asked.name))

-- the answer, with these labels and a memory of this many bytes
abbrev pub set_function_breakpoints : Table → ℕ → ℕ → given.SetFunctionBreakpointsArguments → Answer
set_function_breakpoints table size next arguments =
    if nat_lt 1024 (length arguments.breakpoints) then record { result = Err TooMuch; list = None }
    else record {
      result = Ok (SetFunctionBreakpoints (record {
        breakpoints = entries_of (judged table size) entry next arguments.breakpoints;
      }));
      list = Some (list_of (judged table size) wanted next arguments.breakpoints);
    }
