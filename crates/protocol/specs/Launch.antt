-- The request `launch` (`LaunchRequest`): what its arguments mean.
--
-- The standard leaves the arguments of `launch` to the adapter (`LaunchRequestArguments`). This one takes
-- the path of a program, and whether it is to stop before its first instruction. All else that the
-- editor says, `noDebug` too, is not looked at.
use Rattle.std.specs.Prelude.{None, Option, Some, codes, false, refl, unwrap_or, ◌≡◌, true}
use Rattle.serde_json.specs.Data.{Members, member, no_members, string, boolean}
use Rattle.serde_json.specs.Find.{as_bool, as_str}
use Rattle.protocol.specs.Properties.{property, ◌>>=◌}
use Rattle.protocol.specs.Arguments.{optional, required}
use Rattle.protocol.specs.declared.launch.LaunchArguments.{LaunchArguments}
use Rattle.protocol.specs.declared.launch.TheConstants.{NAME, PROGRAM, STOP_ON_ENTRY}
use Rattle.protocol.specs.declared.command.Command.TheVariants as command
use Rattle.protocol.specs.Rows.{Row, row}

-- the arguments; None where the program is absent, or one of the two has another type
abbrev pub launch_arguments : Members → Option LaunchArguments
launch_arguments members = do
  program ← required as_str (property PROGRAM.now members)
  stop_on_entry ← optional as_bool (property STOP_ON_ENTRY.now members)
  Some (record { program = program; stop_on_entry = unwrap_or stop_on_entry false })

-- the request
abbrev pub launch_request : Row
launch_request = row NAME.now launch_arguments (λ a. command.Launch a)

it_does_not_stop : launch_arguments (member (codes "program") (string (codes "a.s")) no_members)
    ≡ Some (record { program = codes "a.s"; stop_on_entry = false })
it_does_not_stop = refl

a_program_has_to_be_named : launch_arguments no_members ≡ None
a_program_has_to_be_named = refl

to_stop_on_entry : launch_arguments
    (member (codes "program") (string (codes "a.s"))
    (member (codes "stopOnEntry") (boolean true) no_members))
    ≡ Some (record { program = codes "a.s"; stop_on_entry = true })
to_stop_on_entry = refl
