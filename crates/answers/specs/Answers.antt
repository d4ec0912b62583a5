-- What requests for breakpoints answer, as functions of what they are lent.
--
-- Of the program such an answer needs the table of lines and labels and the source's path, of the machine how many
-- bytes its memory has, and nothing else: neither registers nor memory, nor the breakpoints that are set.
use Rattle.std.specs.Prelude.{ℕ, Bool, true, false, nat_lt, length, option_map, map, Ok, None}
use Rattle.image.specs.Lines.{Table}
use Rattle.protocol.specs.declared.command.Command.{Command}
use Rattle.protocol.specs.declared.command.Command.TheVariants.{SetBreakpoints, SetFunctionBreakpoints}
use Rattle.protocol.specs.declared.command.Command.TheVariants.{SetInstructionBreakpoints}
use Rattle.replies.specs.declared.response.ResponseBody.TheVariants.{Empty}
use Rattle.breakpoints.specs.Stops.{wanted_by}
use Rattle.answers.specs.Breakpoints.{Answer}
use Rattle.answers.specs.SetBreakpoints.{is_too_much, set_breakpoints}
use Rattle.answers.specs.SetFunctionBreakpoints.{set_function_breakpoints}
use Rattle.answers.specs.SetInstructionBreakpoints.{set_instruction_breakpoints}
use Rattle.answers.specs.declared.breaks.BreakAnswer.{BreakAnswer}
use Rattle.answers.specs.declared.view.View.{View}

-- whether a request sets breakpoints
abbrev pub sets_breakpoints : Command → Bool
sets_breakpoints (SetBreakpoints arguments) = true
sets_breakpoints (SetFunctionBreakpoints arguments) = true
sets_breakpoints (SetInstructionBreakpoints arguments) = true
sets_breakpoints other = false

-- how many breakpoints it asks for
abbrev pub count_asked : Command → ℕ
count_asked (SetBreakpoints arguments) = length arguments.breakpoints
count_asked (SetFunctionBreakpoints arguments) = length arguments.breakpoints
count_asked (SetInstructionBreakpoints arguments) = length arguments.breakpoints
count_asked other = 0

-- whether it asks for too much: for more than 1,024 breakpoints, or for a logpoint that writes more than 1,024 bytes
abbrev pub asks_too_much : Command → Bool
asks_too_much (SetBreakpoints arguments) = is_too_much arguments.breakpoints
asks_too_much other = nat_lt 1024 (count_asked other)

-- The answer of a request that sets breakpoints: `size` is how many bytes memory has, `next` the number of the next
-- breakpoint. Another request sets none.
abbrev pub breaks_answer : Command → Table → ℕ → View → ℕ → Answer
breaks_answer (SetBreakpoints arguments) table size view next = set_breakpoints table view next arguments
breaks_answer (SetFunctionBreakpoints arguments) table size view next =
    set_function_breakpoints table size next arguments
breaks_answer (SetInstructionBreakpoints arguments) table size view next =
    set_instruction_breakpoints size next arguments
breaks_answer other table size view next = record { result = Ok Empty; list = None }

-- the code's answer
abbrev pub answer_by : BreakAnswer → Answer
answer_by answer = record { result = answer.result; list = option_map (λ list. map wanted_by list.items) answer.list }
