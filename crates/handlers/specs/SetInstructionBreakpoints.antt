-- `setInstructionBreakpoints`: the breakpoints of instructions are now these (DAP specification, `SetInstructionBreakpointsRequest`).
use Rattle.protocol.specs.declared.command.Command.TheVariants.{SetInstructionBreakpoints}
use Rattle.protocol.specs.declared.set_instruction_breakpoints.SetInstructionBreakpointsArguments.{SetInstructionBreakpointsArguments}
use Rattle.handlers.specs.declared.terms.Terms.{Terms}
use Rattle.handlers.specs.declared.demand.Demand.{Demand}
use Rattle.handlers.specs.declared.phase.Phases.TheVariants.{Debugging}
use Rattle.handlers.specs.Demands.{asks_program, taken_in}
use Rattle.handlers.specs.Given.{Answering, Given}
use Rattle.handlers.specs.Breaks as breaks

-- in which phases it is taken, and what it asks of the program
abbrev pub demand : Demand
demand = taken_in Debugging asks_program

-- the answer, and what it changes
abbrev pub success : Given → Terms → SetInstructionBreakpointsArguments → Answering
success given terms arguments = breaks.success given terms (SetInstructionBreakpoints arguments)
