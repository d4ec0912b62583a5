-- What `evaluate` answers (DAP specification, `EvaluateRequest`).
--
-- An expression is evaluated on the hart and memory as they stand. A request may name a frame, and then it has to be one of
-- this stop; of outer frames nothing else is known, so each frame gives the same value. A text that is no expression is
-- refused, and so is one that reads a word outside memory.
use Rattle.std.specs.Prelude.{ℕ, List, Option, Some, None, Result, Ok, Err}
use Rattle.breakpoints.specs.Trees.{Tree}
use Rattle.breakpoints.specs.Values.{value_of}
use Rattle.breakpoints.specs.declared.error.ExprFault.{ExprFault}
use Rattle.protocol.specs.declared.evaluate.EvaluateArguments.{EvaluateArguments}
use Rattle.protocol.specs.declared.refusal.Refusal.{Refusal}
use Rattle.protocol.specs.declared.refusal.Refusal.TheVariants.{BadExpression}
use Rattle.replies.specs.declared.response.ResponseBody.{ResponseBody}
use Rattle.replies.specs.declared.response.ResponseBody.TheVariants.{Evaluate}
use Rattle.rv32i.specs.declared.hart.Hart.{Hart}
use Rattle.stepping.specs.Ticks.{Debugged}
use Rattle.variables.specs.Numbers.{Numbers}
use Rattle.answers.specs.Expressions.{expression_of}
use Rattle.answers.specs.Targets.{frame_refusal}

abbrev pub if_valued : Result ℕ ExprFault → Result ResponseBody Refusal
if_valued (Ok value) = Ok (Evaluate (record { result = value }))
if_valued (Err fault) = Err BadExpression

abbrev pub valued : Option Tree → Hart → List ℕ → Result ResponseBody Refusal
valued None hart memory = Err BadExpression
valued (Some tree) hart memory = if_valued (value_of tree hart memory)

abbrev pub unless_refused : Option Refusal → Result ResponseBody Refusal → Result ResponseBody Refusal
unless_refused None answer = answer
unless_refused (Some refusal) answer = Err refusal

-- the answer
abbrev pub evaluate : EvaluateArguments → Debugged → Numbers → Result ResponseBody Refusal
evaluate arguments machine numbers =
    unless_refused (frame_refusal numbers arguments.frame_id)
    (valued (expression_of arguments.expression) machine.hart machine.memory)
