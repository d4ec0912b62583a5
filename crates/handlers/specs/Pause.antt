-- `pause`: a program that runs is to stand still before its next move (DAP specification, `PauseRequest`).
use Rattle.std.specs.Prelude.{ℤ}
use Rattle.debuggee.specs.Programs.{marked}
use Rattle.debuggee.specs.declared.run.Mark.TheVariants as mark
use Rattle.replies.specs.declared.response.ResponseBody.TheVariants as body
use Rattle.handlers.specs.declared.terms.Terms.{Terms}
use Rattle.handlers.specs.declared.demand.Demand.{Demand}
use Rattle.handlers.specs.declared.phase.Phases.TheVariants.{Active}
use Rattle.handlers.specs.Demands.{asks_thread, taken_in}
use Rattle.handlers.specs.Given.{Answering, Given}
use Rattle.handlers.specs.Successes.{changing}

-- in which phases it is taken, and what it asks of the program
abbrev pub demand : ℤ → Demand
demand thread = taken_in Active (asks_thread thread)

-- the answer, and what it changes
abbrev pub success : Given → Terms → Answering
success given terms = changing given terms (marked mark.Pause) body.Empty
