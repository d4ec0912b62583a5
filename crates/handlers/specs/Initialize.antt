-- `initialize`: taken until one was answered with success, and not again (DAP specification, `InitializeRequest`). It
-- says how the editor counts lines and columns.
use Rattle.protocol.specs.declared.initialize.InitializeArguments.{InitializeArguments}
use Rattle.replies.specs.declared.response.ResponseBody.TheVariants as body
use Rattle.handlers.specs.declared.phase.Phase.TheVariants.{Initialized}
use Rattle.handlers.specs.declared.terms.Terms.{Terms}
use Rattle.handlers.specs.declared.demand.Demand.{Demand}
use Rattle.handlers.specs.declared.phase.Phases.TheVariants.{Fresh}
use Rattle.handlers.specs.Demands.{asks_nothing, taken_in}
use Rattle.handlers.specs.Given.{Answering, Given}
use Rattle.handlers.specs.Successes.{agreeing}

-- in which phases it is taken, and what it asks of the program
abbrev pub demand : Demand
demand = taken_in Fresh asks_nothing

-- what is agreed by it
abbrev pub agreed : Terms → InitializeArguments → Terms
agreed terms arguments = record terms {
  phase = Initialized;
  lines_start_at1 = arguments.lines_start_at1;
  columns_start_at1 = arguments.columns_start_at1;
}

-- the answer, and what it changes
abbrev pub success : Given → Terms → InitializeArguments → Answering
success given terms arguments = agreeing given (agreed terms arguments) body.Initialize
