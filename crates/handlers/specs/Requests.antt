-- The requests: in which phases each is taken, what it asks of the program that is debugged, and how it is answered. This
-- is the list of them; the rest is in the file of each one's name.
--
-- A session serves those that `protocol` reads, and no others (DAP specification, `Request.command`).
use Rattle.std.specs.Prelude.{ℕ, Bool, List, Option}
use Rattle.protocol.specs.declared.command.Command.{Command}
use Rattle.protocol.specs.declared.command.Command.TheVariants.{Initialize, Launch, Attach, ConfigurationDone, Threads, Cancel}
use Rattle.protocol.specs.declared.command.Command.TheVariants.{Restart, Terminate, Disconnect, SetExceptionBreakpoints}
use Rattle.protocol.specs.declared.command.Command.TheVariants.{SetBreakpoints, SetFunctionBreakpoints}
use Rattle.protocol.specs.declared.command.Command.TheVariants.{SetInstructionBreakpoints}
use Rattle.protocol.specs.declared.command.Command.TheVariants.{Continue, Next, StepIn, StepOut, Pause, StepBack, ReverseContinue}
use Rattle.protocol.specs.declared.command.Command.TheVariants.{StackTrace, Scopes, Variables, SetVariable, Evaluate}
use Rattle.protocol.specs.declared.command.Command.TheVariants.{Disassemble, ReadMemory, WriteMemory}
use Rattle.stepping.specs.declared.goal.Goal.TheVariants as goal
use Rattle.handlers.specs.declared.demand.Demand.{Demand}
use Rattle.handlers.specs.declared.phase.Phase.{Phase}
use Rattle.handlers.specs.declared.terms.Terms.{Terms}
use Rattle.handlers.specs.Given.{Answering, Given}
use Rattle.handlers.specs.Phases.{has}
use Rattle.handlers.specs.Stepping.{granularity_of}
use Rattle.handlers.specs.Initialize as initialize
use Rattle.handlers.specs.Launch as launch
use Rattle.handlers.specs.Attach as attach
use Rattle.handlers.specs.ConfigurationDone as configuration_done
use Rattle.handlers.specs.Threads as threads
use Rattle.handlers.specs.Cancel as cancel
use Rattle.handlers.specs.Restart as restart
use Rattle.handlers.specs.Terminate as terminate
use Rattle.handlers.specs.Disconnect as disconnect
use Rattle.handlers.specs.SetBreakpoints as set_breakpoints
use Rattle.handlers.specs.SetFunctionBreakpoints as set_function_breakpoints
use Rattle.handlers.specs.SetInstructionBreakpoints as set_instruction_breakpoints
use Rattle.handlers.specs.SetExceptionBreakpoints as set_exception_breakpoints
use Rattle.handlers.specs.Continue as continue
use Rattle.handlers.specs.Stepping as stepping
use Rattle.handlers.specs.Pause as pause
use Rattle.handlers.specs.GoingBack as going_back
use Rattle.handlers.specs.Looking as looking
use Rattle.handlers.specs.SetVariable as set_variable
use Rattle.handlers.specs.WriteMemory as write_memory

-- in which phases the request is taken, and what it asks of the program that is debugged
abbrev pub demand_of : Command → Demand
demand_of (Initialize arguments) = initialize.demand
demand_of (Launch arguments) = launch.demand
demand_of Attach = attach.demand
demand_of ConfigurationDone = configuration_done.demand
demand_of Threads = threads.demand
demand_of (Cancel arguments) = cancel.demand
demand_of Restart = restart.demand
demand_of Terminate = terminate.demand
demand_of (Disconnect arguments) = disconnect.demand
demand_of (SetBreakpoints arguments) = set_breakpoints.demand
demand_of (SetFunctionBreakpoints arguments) = set_function_breakpoints.demand
demand_of (SetInstructionBreakpoints arguments) = set_instruction_breakpoints.demand
demand_of SetExceptionBreakpoints = set_exception_breakpoints.demand
demand_of (Continue arguments) = continue.demand arguments.thread_id
demand_of (Next arguments) = stepping.demand arguments.thread_id
demand_of (StepIn arguments) = stepping.demand arguments.thread_id
demand_of (StepOut arguments) = stepping.demand arguments.thread_id
demand_of (StepBack arguments) = going_back.demand arguments.thread_id
demand_of (ReverseContinue arguments) = going_back.demand arguments.thread_id
demand_of (Pause arguments) = pause.demand arguments.thread_id
demand_of (StackTrace arguments) = looking.demand_on arguments.thread_id
demand_of (Scopes arguments) = looking.demand
demand_of (Variables arguments) = looking.demand
demand_of (Evaluate arguments) = looking.demand
demand_of (Disassemble arguments) = looking.demand
demand_of (ReadMemory arguments) = looking.demand
demand_of (SetVariable arguments) = set_variable.demand
demand_of (WriteMemory arguments) = write_memory.demand

-- whether the request is taken in the phase
abbrev pub is_taken_in : Phase → Command → Bool
is_taken_in phase command = has (demand_of command).phases phase

-- the answer to a request that is taken, where the program is as it asks; it is given the file that it names
abbrev pub success_of : Given → Terms → Option (List ℕ) → Command → Answering
success_of given terms file (Initialize arguments) = initialize.success given terms arguments
success_of given terms file (Launch arguments) = launch.success given terms file arguments
success_of given terms file Attach = attach.success given terms
success_of given terms file ConfigurationDone = configuration_done.success given terms
success_of given terms file Threads = threads.success given terms
success_of given terms file (Cancel arguments) = cancel.success given terms
success_of given terms file Restart = restart.success given terms
success_of given terms file Terminate = terminate.success given terms
success_of given terms file (Disconnect arguments) = disconnect.success given terms arguments
success_of given terms file (SetBreakpoints arguments) = set_breakpoints.success given terms arguments
success_of given terms file (SetFunctionBreakpoints arguments) =
    set_function_breakpoints.success given terms arguments
success_of given terms file (SetInstructionBreakpoints arguments) =
    set_instruction_breakpoints.success given terms arguments
success_of given terms file SetExceptionBreakpoints = set_exception_breakpoints.success given terms
success_of given terms file (Continue arguments) = continue.success given terms
success_of given terms file (Next arguments) =
    stepping.success given terms (goal.Over (granularity_of arguments.granularity))
success_of given terms file (StepIn arguments) =
    stepping.success given terms (goal.In (granularity_of arguments.granularity))
success_of given terms file (StepOut arguments) =
    stepping.success given terms (goal.Out (granularity_of arguments.granularity))
success_of given terms file (StepBack arguments) = going_back.success given terms goal.Back
success_of given terms file (ReverseContinue arguments) = going_back.success given terms goal.ReverseGo
success_of given terms file (Pause arguments) = pause.success given terms
success_of given terms file (StackTrace arguments) = looking.looks given terms (StackTrace arguments)
success_of given terms file (Scopes arguments) = looking.looks given terms (Scopes arguments)
success_of given terms file (Variables arguments) = looking.looks given terms (Variables arguments)
success_of given terms file (Evaluate arguments) = looking.looks given terms (Evaluate arguments)
success_of given terms file (Disassemble arguments) = looking.looks given terms (Disassemble arguments)
success_of given terms file (ReadMemory arguments) = looking.looks given terms (ReadMemory arguments)
success_of given terms file (SetVariable arguments) = set_variable.success given terms arguments
success_of given terms file (WriteMemory arguments) = write_memory.success given terms arguments
