-- The request `variables` (`VariablesRequest`): what its arguments mean.
--
-- The editor names a scope by its reference, an integer. It may ask for one kind of variables, named or
-- indexed, and may say from which one on, and how many. Where it doesn't say how many, that stays open
-- here. `format` is not looked at.
use Rattle.std.specs.Prelude.{None, Option, Some, codes, pos, refl, unwrap_or, ◌≡◌}
use Rattle.serde_json.specs.Data.{Members, member, no_members, number, string, unsigned}
use Rattle.protocol.specs.Properties.{integer, natural, property, ◌>>=◌}
use Rattle.protocol.specs.Arguments.{optional, required}
use Rattle.protocol.specs.Filter.{filter_of}
use Rattle.protocol.specs.declared.filter.Filter.TheVariants.{Named}
use Rattle.protocol.specs.declared.members.TheConstants.{VARIABLES_REFERENCE, COUNT}
use Rattle.protocol.specs.declared.variables.VariablesArguments.{VariablesArguments}
use Rattle.protocol.specs.declared.variables.TheConstants.{NAME, FILTER, START}
use Rattle.protocol.specs.declared.command.Command.TheVariants as command
use Rattle.protocol.specs.Rows.{Row, row}

-- the arguments; None where the reference is absent, or one of the four has another type
abbrev pub variables_arguments : Members → Option VariablesArguments
variables_arguments members = do
  variables_reference ← required integer (property VARIABLES_REFERENCE.now members)
  filter ← optional filter_of (property FILTER.now members)
  start ← optional natural (property START.now members)
  count ← optional natural (property COUNT.now members)
  Some (record {
    variables_reference = variables_reference;
    filter = filter;
    start = unwrap_or start 0;
    count = count;
  })

-- the request
abbrev pub variables_request : Row
variables_request = row NAME.now variables_arguments (λ a. command.Variables a)

all_variables : variables_arguments (member (codes "variablesReference") (number (unsigned 1001)) no_members)
    ≡ Some (record { variables_reference = pos 1001; filter = None; start = 0; count = None })
all_variables = refl

of_another_kind : variables_arguments
    (member (codes "filter") (string (codes "hidden"))
    (member (codes "variablesReference") (number (unsigned 1001)) no_members))
    ≡ None
of_another_kind = refl

some_variables : variables_arguments
    (member (codes "count") (number (unsigned 8))
    (member (codes "filter") (string (codes "named"))
    (member (codes "start") (number (unsigned 4))
    (member (codes "variablesReference") (number (unsigned 1001)) no_members))))
    ≡ Some (record { variables_reference = pos 1001; filter = Some Named; start = 4; count = Some 8 })
some_variables = refl
