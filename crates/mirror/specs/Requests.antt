-- What a request would tell, once it succeeds.
--
-- A response does not repeat what was asked: that a list of breakpoints is the list of this path, that the first of these
-- frames has that index, stands in the request (DAP specification, `Request`, `Response.request_seq`). So an editor that
-- reads responses remembers its requests by their numbers. Of each only what a success would tell has to be remembered.
use Rattle.std.specs.Prelude.{◌≡◌, ℕ, ◌==◌, if◌then◌else◌, List, Option, Some, None, bytes_eq, codes, refl}
use Rattle.numerals.specs.MemoryReferences.{address_in}
use Rattle.protocol.specs.declared.command.Command.{Command}
use Rattle.protocol.specs.declared.command.Command.TheVariants.{Initialize, Attach, Threads, Cancel, Restart}
use Rattle.protocol.specs.declared.command.Command.TheVariants.{SetExceptionBreakpoints, Next, StepIn, StepOut, StepBack}
use Rattle.protocol.specs.declared.command.Command.TheVariants.{ReverseContinue, Pause}
use Rattle.protocol.specs.declared.command.Command.TheVariants.{Scopes, Evaluate, Disassemble}
use Rattle.protocol.specs.declared.command.Command.TheVariants.{Launch as AskLaunch}
use Rattle.protocol.specs.declared.command.Command.TheVariants.{ConfigurationDone as AskConfigurationDone}
use Rattle.protocol.specs.declared.command.Command.TheVariants.{Terminate as AskTerminate}
use Rattle.protocol.specs.declared.command.Command.TheVariants.{Disconnect as AskDisconnect}
use Rattle.protocol.specs.declared.command.Command.TheVariants.{SetBreakpoints as AskSetBreakpoints}
use Rattle.protocol.specs.declared.command.Command.TheVariants.{SetFunctionBreakpoints as AskSetFunctionBreakpoints}
use Rattle.protocol.specs.declared.command.Command.TheVariants.{SetInstructionBreakpoints as AskSetInstructionBreakpoints}
use Rattle.protocol.specs.declared.command.Command.TheVariants.{Continue as AskContinue}
use Rattle.protocol.specs.declared.command.Command.TheVariants.{StackTrace as AskStackTrace}
use Rattle.protocol.specs.declared.command.Command.TheVariants.{Variables as AskVariables}
use Rattle.protocol.specs.declared.command.Command.TheVariants.{SetVariable as AskSetVariable}
use Rattle.protocol.specs.declared.command.Command.TheVariants.{ReadMemory as AskReadMemory}
use Rattle.protocol.specs.declared.command.Command.TheVariants.{WriteMemory as AskWriteMemory}
use Rattle.rv32i.specs.Names.{number_named}
use Rattle.mirror.specs.declared.asked.Asked.{Asked}
use Rattle.mirror.specs.declared.asked.Asked.TheVariants.{Continue, Resume, ConfigurationDone, Launch, Terminate, Disconnect}
use Rattle.mirror.specs.declared.asked.Asked.TheVariants.{SetBreakpoints, SetFunctionBreakpoints, SetInstructionBreakpoints}
use Rattle.mirror.specs.declared.asked.Asked.TheVariants.{StackTrace, Variables, SetVariable, ReadMemory, WriteMemory, Other}

-- ---- registers by name

-- the number by which the facts have a register: `zero`, `ra` and on to `t6` are 0 to 31, and `pc` is 32
abbrev pub register_of : List ℕ → Option ℕ
register_of name = if bytes_eq name (codes "pc") then Some 32 else number_named name

the_last : register_of (codes "t6") ≡ Some 31
unfolding number_named
the_last = refl

the_counter : register_of (codes "pc") ≡ Some 32
the_counter = refl

no_other_names : register_of (codes "fp") ≡ None
unfolding number_named
no_other_names = refl

-- ---- the requests

-- what a request would tell
abbrev pub asked_of : Command → Asked
asked_of (Initialize arguments) = Other
asked_of (AskLaunch arguments) = Launch
asked_of Attach = Other
asked_of AskConfigurationDone = ConfigurationDone
asked_of Threads = Other
asked_of (Cancel arguments) = Other
asked_of Restart = Resume
asked_of AskTerminate = Terminate
asked_of (AskDisconnect arguments) = Disconnect
asked_of (AskSetBreakpoints arguments) = SetBreakpoints arguments.source.path
asked_of (AskSetFunctionBreakpoints arguments) = SetFunctionBreakpoints
asked_of (AskSetInstructionBreakpoints arguments) = SetInstructionBreakpoints
asked_of SetExceptionBreakpoints = Other
asked_of (AskContinue arguments) = Continue
asked_of (Next arguments) = Resume
asked_of (StepIn arguments) = Resume
asked_of (StepOut arguments) = Resume
asked_of (StepBack arguments) = Resume
asked_of (ReverseContinue arguments) = Resume
asked_of (Pause arguments) = Other
asked_of (AskStackTrace arguments) = StackTrace arguments.start_frame
asked_of (Scopes arguments) = Other
asked_of (AskVariables arguments) = Variables
asked_of (AskSetVariable arguments) = SetVariable arguments.name
asked_of (Evaluate arguments) = Other
asked_of (Disassemble arguments) = Other
asked_of (AskReadMemory arguments) = ReadMemory
asked_of (AskWriteMemory arguments) = WriteMemory (address_in arguments.memory_reference arguments.offset) arguments.bytes

-- what was asked, by the numbers of the requests, after one more: the first of a number stays
abbrev pub kept_first : Asked → Option Asked → Option Asked
kept_first asked None = Some asked
kept_first asked (Some first) = Some first

abbrev pub told_of : (ℕ → Option Asked) → ℕ → Asked → ℕ → Option Asked
told_of known seq asked number = if seq == number then kept_first asked (known number) else known number
