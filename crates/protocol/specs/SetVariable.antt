-- The request `setVariable` (`SetVariableRequest`): what its arguments mean.
--
-- The editor names a scope by its reference, an integer, a variable by its name, and a value by a text,
-- which is read later: a number is no text. `format` is not looked at.
use Rattle.std.specs.Prelude.{None, Option, Some, codes, pos, refl, ◌≡◌}
use Rattle.serde_json.specs.Data.{Members, member, no_members, number, string, unsigned}
use Rattle.serde_json.specs.Find.{as_str}
use Rattle.protocol.specs.Properties.{integer, property, ◌>>=◌}
use Rattle.protocol.specs.Arguments.{required}
use Rattle.protocol.specs.declared.members.TheConstants.{VARIABLES_REFERENCE}
use Rattle.protocol.specs.declared.set_variable.SetVariableArguments.{SetVariableArguments}
use Rattle.protocol.specs.declared.set_variable.TheConstants.{NAME, VARIABLE_NAME, VALUE}
use Rattle.protocol.specs.declared.command.Command.TheVariants as command
use Rattle.protocol.specs.Rows.{Row, row}

-- the arguments; None where one of the three is absent, or has another type
abbrev pub set_variable_arguments : Members → Option SetVariableArguments
set_variable_arguments members = do
  variables_reference ← required integer (property VARIABLES_REFERENCE.now members)
  name ← required as_str (property VARIABLE_NAME.now members)
  value ← required as_str (property VALUE.now members)
  Some (record { variables_reference = variables_reference; name = name; value = value })

-- the request
abbrev pub set_variable_request : Row
set_variable_request = row NAME.now set_variable_arguments (λ a. command.SetVariable a)

a_number_is_no_text : set_variable_arguments
    (member (codes "name") (string (codes "a0"))
    (member (codes "value") (number (unsigned 1))
    (member (codes "variablesReference") (number (unsigned 1001)) no_members)))
    ≡ None
a_number_is_no_text = refl

a0_is_1 : set_variable_arguments
    (member (codes "name") (string (codes "a0"))
    (member (codes "value") (string (codes "1"))
    (member (codes "variablesReference") (number (unsigned 1001)) no_members)))
    ≡ Some (record { variables_reference = pos 1001; name = codes "a0"; value = codes "1" })
a0_is_1 = refl
