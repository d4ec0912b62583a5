-- `setVariable`: a register gets another value, which stands before it is answered (DAP specification,
-- `SetVariableRequest`).
use Rattle.std.specs.Prelude.{Option, Some, None, Result, Ok, Err}
use Rattle.answers.specs.SetVariable.{set_variable}
use Rattle.answers.specs.declared.set_variable.Setting.{Setting}
use Rattle.debuggee.specs.Programs.{Program, with_hart}
use Rattle.protocol.specs.declared.refusal.Refusal.{Refusal}
use Rattle.protocol.specs.declared.set_variable.SetVariableArguments.{SetVariableArguments}
use Rattle.replies.specs.declared.response.ResponseBody.TheVariants as body
use Rattle.handlers.specs.declared.terms.Terms.{Terms}
use Rattle.handlers.specs.declared.demand.Demand.{Demand}
use Rattle.handlers.specs.declared.phase.Phases.TheVariants.{Active}
use Rattle.handlers.specs.Demands.{asks_stopped, taken_in}
use Rattle.handlers.specs.Given.{Answering, Given}
use Rattle.handlers.specs.Successes.{agreeing, changing, refusing}

-- in which phases it is taken, and what it asks of the program
abbrev pub demand : Demand
demand = taken_in Active asks_stopped

-- by what is answered
abbrev pub sets_by : Given → Terms → Result Setting Refusal → Answering
sets_by given terms (Ok setting) = changing given terms (with_hart setting.hart) setting.body
sets_by given terms (Err refusal) = refusing given terms refusal None

abbrev pub sets_on : Option Program → Given → Terms → SetVariableArguments → Answering
sets_on None given terms arguments = agreeing given terms body.Empty
sets_on (Some p) given terms arguments = sets_by given terms (set_variable arguments p.machine given.numbers)

-- the answer, and what it changes
abbrev pub success : Given → Terms → SetVariableArguments → Answering
success given terms arguments = sets_on given.debuggee.program given terms arguments
