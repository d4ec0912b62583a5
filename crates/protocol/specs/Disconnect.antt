-- The request `disconnect` (`DisconnectRequest`): what its arguments mean.
--
-- The editor may say what is to become of the program. What it doesn't say stays open here, since
-- it depends on how the program was started. All else that it says is not looked at.
use Rattle.std.specs.Prelude.{◌≡◌, Option, Some, None, true, codes, refl}
use Rattle.serde_json.specs.Data.{boolean, Members, no_members, member}
use Rattle.serde_json.specs.Find.{as_bool}
use Rattle.protocol.specs.Properties.{◌>>=◌, property}
use Rattle.protocol.specs.Arguments.{optional}
use Rattle.protocol.specs.declared.disconnect.DisconnectArguments.{DisconnectArguments}
use Rattle.protocol.specs.declared.disconnect.TheConstants.{NAME, TERMINATE_DEBUGGEE, SUSPEND_DEBUGGEE}
use Rattle.protocol.specs.declared.command.Command.TheVariants as command
use Rattle.protocol.specs.Rows.{Row, row}

-- the arguments; None where one of the two is there and is neither true nor false
abbrev pub disconnect_arguments : Members → Option DisconnectArguments
disconnect_arguments members = do
  terminate ← optional as_bool (property TERMINATE_DEBUGGEE.now members)
  suspend ← optional as_bool (property SUSPEND_DEBUGGEE.now members)
  Some (record { terminate_debuggee = terminate; suspend_debuggee = suspend })

-- the request
abbrev pub disconnect_request : Row
disconnect_request = row NAME.now disconnect_arguments (λ a. command.Disconnect a)

to_end : disconnect_arguments (member (codes "terminateDebuggee") (boolean true) no_members)
    ≡ Some (record { terminate_debuggee = Some true; suspend_debuggee = None })
to_end = refl

to_suspend : disconnect_arguments (member (codes "suspendDebuggee") (boolean true) no_members)
    ≡ Some (record { terminate_debuggee = None; suspend_debuggee = Some true })
to_suspend = refl
