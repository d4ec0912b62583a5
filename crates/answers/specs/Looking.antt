-- What requests answer that look into a stopped machine, as functions of what they are lent.
--
-- Such a request changes nothing of the machine. Those for frames and scopes need numbers for what they give: the answer
-- has these numbers already, and the targets are those for which they have still to be issued, in this order. Where a
-- request is refused, there are none.
use Rattle.std.specs.Prelude.{ℕ, Bool, true, false, List, [], Result, Ok, Err}
use Rattle.image.specs.Lines.{Table}
use Rattle.protocol.specs.declared.command.Command.{Command}
use Rattle.protocol.specs.declared.command.Command.TheVariants.{StackTrace, Scopes, Variables, Evaluate, Disassemble}
use Rattle.protocol.specs.declared.command.Command.TheVariants.{ReadMemory}
use Rattle.protocol.specs.declared.refusal.Refusal.{Refusal}
use Rattle.protocol.specs.declared.refusal.Refusal.TheVariants.{BadExpression}
use Rattle.replies.specs.declared.response.ResponseBody.{ResponseBody}
use Rattle.replies.specs.declared.response.ResponseBody.TheVariants.{Empty}
use Rattle.stepping.specs.Ticks.{Debugged}
use Rattle.variables.specs.Numbers.{Numbers}
use Rattle.variables.specs.declared.target.Target.{Target}
use Rattle.answers.specs.Disassemble.{disassemble}
use Rattle.answers.specs.Evaluate.{evaluate}
use Rattle.answers.specs.ReadMemory.{read_memory}
use Rattle.answers.specs.Scopes.{scopes, scopes_given}
use Rattle.answers.specs.StackTrace.{frames_given, stack_trace}
use Rattle.answers.specs.Variables.{variables}
use Rattle.answers.specs.declared.shown.Look as code
use Rattle.answers.specs.declared.view.View.{View}

-- what is answered, and the targets for which numbers have to be issued
pub record Look : Type 0 where
  pub result : Result ResponseBody Refusal
  pub targets : List Target

-- whether a request looks into the machine
abbrev pub looks_in : Command → Bool
looks_in (StackTrace arguments) = true
looks_in (Scopes arguments) = true
looks_in (Variables arguments) = true
looks_in (Evaluate arguments) = true
looks_in (Disassemble arguments) = true
looks_in (ReadMemory arguments) = true
looks_in other = false

-- an answer for which no numbers have to be issued
abbrev pub alone : Result ResponseBody Refusal → Look
alone result = record { result = result; targets = [] }

-- The answer of such a request, by the machine, the program's lines, and the numbers that this stop has. Another request
-- looks at nothing.
abbrev pub look_answer : Command → Debugged → Table → Numbers → View → Look
look_answer (StackTrace arguments) machine table numbers view =
    record { result = stack_trace arguments machine table numbers view; targets = frames_given arguments machine }
look_answer (Scopes arguments) machine table numbers view =
    record { result = scopes arguments numbers; targets = scopes_given arguments numbers }
look_answer (Variables arguments) machine table numbers view = alone (variables arguments machine numbers)
look_answer (Evaluate arguments) machine table numbers view = alone (evaluate arguments machine numbers)
look_answer (Disassemble arguments) machine table numbers view = alone (disassemble machine.memory arguments)
look_answer (ReadMemory arguments) machine table numbers view = alone (read_memory machine.memory arguments)
look_answer other machine table numbers view = alone (Ok Empty)

-- the code's answer
abbrev pub look_by : code.Look → Look
look_by look = record { result = look.result; targets = look.targets.items }

-- the text that a request has read as an expression, which takes no memory where it has more than
-- 1,024 bytes
abbrev pub text_read : Command → List ℕ
text_read (Evaluate arguments) = arguments.expression
text_read other = []

-- Whether an answer may take memory: a body does, and so does reading a text that turns out to be no expression. Every
-- other refusal takes none.
abbrev pub may_allocate : Result ResponseBody Refusal → Bool
may_allocate (Ok body) = true
may_allocate (Err BadExpression) = true
may_allocate (Err refusal) = false
