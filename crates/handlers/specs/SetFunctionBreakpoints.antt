-- `setFunctionBreakpoints`: the breakpoints of functions are now these (DAP specification, `SetFunctionBreakpointsRequest`).
use Rattle.protocol.specs.declared.command.Command.TheVariants.{SetFunctionBreakpoints}
use Rattle.protocol.specs.declared.set_function_breakpoints.SetFunctionBreakpointsArguments.{SetFunctionBreakpointsArguments}
use Rattle.handlers.specs.declared.terms.Terms.{Terms}
use Rattle.handlers.specs.declared.demand.Demand.{Demand}
use Rattle.handlers.specs.declared.phase.Phases.TheVariants.{Debugging}
use Rattle.handlers.specs.Demands.{asks_program, taken_in}
use Rattle.handlers.specs.Given.{Answering, Given}
use Rattle.handlers.specs.Breaks as breaks

-- in which phases it is taken, and what it asks of the program
abbrev pub demand : Demand
demand = taken_in Debugging asks_program

-- the answer, and what it changes
abbrev pub success : Given → Terms → SetFunctionBreakpointsArguments → Answering
success given terms arguments = breaks.success given terms (SetFunctionBreakpoints arguments)
