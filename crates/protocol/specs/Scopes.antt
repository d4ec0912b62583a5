-- The request `scopes` (`ScopesRequest`): what its arguments mean.
--
-- The editor names a frame by an integer. Which frames there are is asked later.
use Rattle.std.specs.Prelude.{None, Option, Some, codes, pos, refl, ◌≡◌}
use Rattle.serde_json.specs.Data.{Members, member, no_members, number, unsigned}
use Rattle.protocol.specs.Properties.{integer, property, ◌>>=◌}
use Rattle.protocol.specs.Arguments.{required}
use Rattle.protocol.specs.declared.members.TheConstants.{FRAME_ID}
use Rattle.protocol.specs.declared.scopes.ScopesArguments.{ScopesArguments}
use Rattle.protocol.specs.declared.scopes.TheConstants.{NAME}
use Rattle.protocol.specs.declared.command.Command.TheVariants as command
use Rattle.protocol.specs.Rows.{Row, row}

-- the arguments; None where the frame is absent, or no integer
abbrev pub scopes_arguments : Members → Option ScopesArguments
scopes_arguments members = do
  frame_id ← required integer (property FRAME_ID.now members)
  Some (record { frame_id = frame_id })

-- the request
abbrev pub scopes_request : Row
scopes_request = row NAME.now scopes_arguments (λ a. command.Scopes a)

frame_1000 : scopes_arguments (member (codes "frameId") (number (unsigned 1000)) no_members)
    ≡ Some (record { frame_id = pos 1000 })
frame_1000 = refl

a_frame_has_to_be_named : scopes_arguments no_members ≡ None
a_frame_has_to_be_named = refl
