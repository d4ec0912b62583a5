-- What requests ask of the program, as far as laws speak of it.
--
-- There is a row for each request, so that none is passed over in silence.
use Rattle.protocol.specs.declared.command.Command.{Command}
use Rattle.protocol.specs.declared.command.Command.TheVariants as one
use Rattle.stepping.specs.declared.goal.Goal.{Goal}
use Rattle.stepping.specs.declared.goal.Goal.TheVariants.{Back, ReverseGo}

-- the program is loaded, or loaded anew; it begins its first run, or ends; its machine is changed from outside; it goes
-- back, with this goal; or it is none of these
pub data Intent : Type 0 where
  Load : Intent
  LoadAnew : Intent
  Begin : Intent
  End : Intent
  Change : Intent
  GoBack : Goal → Intent
  Other : Intent

abbrev pub intent_of : Command → Intent
intent_of (one.Initialize arguments) = Other
intent_of (one.Launch arguments) = Load
intent_of one.Attach = Other
intent_of one.ConfigurationDone = Begin
intent_of one.Threads = Other
intent_of (one.Cancel arguments) = Other
intent_of one.Restart = LoadAnew
intent_of one.Terminate = End
intent_of (one.Disconnect arguments) = Other
intent_of (one.SetBreakpoints arguments) = Other
intent_of (one.SetFunctionBreakpoints arguments) = Other
intent_of (one.SetInstructionBreakpoints arguments) = Other
intent_of one.SetExceptionBreakpoints = Other
intent_of (one.Continue arguments) = Other
intent_of (one.Next arguments) = Other
intent_of (one.StepIn arguments) = Other
intent_of (one.StepOut arguments) = Other
intent_of (one.StepBack arguments) = GoBack Back
intent_of (one.ReverseContinue arguments) = GoBack ReverseGo
intent_of (one.Pause arguments) = Other
intent_of (one.StackTrace arguments) = Other
intent_of (one.Scopes arguments) = Other
intent_of (one.Variables arguments) = Other
intent_of (one.SetVariable arguments) = Change
intent_of (one.Evaluate arguments) = Other
intent_of (one.Disassemble arguments) = Other
intent_of (one.ReadMemory arguments) = Other
intent_of (one.WriteMemory arguments) = Change
