-- What `variables` answers (DAP specification, `VariablesRequest`, `Variable`).
--
-- The variables of a scope are a list, and a request may ask for part of it. None of them is an element of a variable, so
-- where only such ones are asked for (`filter` `indexed`), there are none.
use Rattle.std.specs.Prelude.{List, [], Option, Some, None, Result, Ok, Err}
use Rattle.message_parts.specs.declared.variables.Variable.{Variable}
use Rattle.protocol.specs.declared.filter.Filter.{Filter}
use Rattle.protocol.specs.declared.filter.Filter.TheVariants.{Indexed, Named}
use Rattle.protocol.specs.declared.refusal.Refusal.{Refusal}
use Rattle.protocol.specs.declared.refusal.Refusal.TheVariants.{UnknownReference}
use Rattle.protocol.specs.declared.variables.VariablesArguments.{VariablesArguments}
use Rattle.replies.specs.declared.response.ResponseBody.{ResponseBody}
use Rattle.replies.specs.declared.response.ResponseBody.TheVariants.{Variables}
use Rattle.stepping.specs.Ticks.{Debugged}
use Rattle.variables.specs.Numbers.{Numbers}
use Rattle.variables.specs.Registers.{registers}
use Rattle.variables.specs.Stack.{stack_words}
use Rattle.variables.specs.declared.target.Target.{Target}
use Rattle.variables.specs.declared.target.Target.TheVariants.{Frame, Registers, Stack}
use Rattle.answers.specs.Parts.{part}
use Rattle.answers.specs.Targets.{target_of}

-- the variables of a scope
abbrev pub variables_in : Debugged → Result Target Refusal → Result (List Variable) Refusal
variables_in machine (Ok (Frame index)) = Err UnknownReference
variables_in machine (Ok Registers) = Ok (registers machine.hart)
variables_in machine (Ok Stack) = Ok (stack_words machine.hart machine.memory)
variables_in machine (Err refusal) = Err refusal

-- those of a kind
abbrev pub of_kind : Option Filter → List Variable → List Variable
of_kind None list = list
of_kind (Some Named) list = list
of_kind (Some Indexed) list = []

-- those that are asked for
abbrev pub asked_of : VariablesArguments → List Variable → List Variable
asked_of arguments list = part arguments.start arguments.count (of_kind arguments.filter list)

abbrev pub body_by : VariablesArguments → Result (List Variable) Refusal → Result ResponseBody Refusal
body_by arguments (Ok list) = Ok (Variables (record { variables = asked_of arguments list }))
body_by arguments (Err refusal) = Err refusal

-- the answer
abbrev pub variables : VariablesArguments → Debugged → Numbers → Result ResponseBody Refusal
variables arguments machine numbers =
    body_by arguments (variables_in machine (target_of numbers arguments.variables_reference))
