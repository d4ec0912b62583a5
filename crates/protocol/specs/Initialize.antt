-- The request `initialize` (`InitializeRequest`): what its arguments mean.
--
-- The editor says whether the first line and the first column are number 1. What it doesn't say is
-- true. All else that it says of itself is not looked at, so its `adapterID` may be absent.
use Rattle.std.specs.Prelude.{◌≡◌, Option, Some, true, false, codes, unwrap_or, refl}
use Rattle.serde_json.specs.Data.{boolean, Members, no_members, member}
use Rattle.serde_json.specs.Find.{as_bool}
use Rattle.protocol.specs.Properties.{◌>>=◌, property}
use Rattle.protocol.specs.Arguments.{optional}
use Rattle.protocol.specs.declared.initialize.InitializeArguments.{InitializeArguments}
use Rattle.protocol.specs.declared.initialize.TheConstants.{NAME, LINES_START_AT1, COLUMNS_START_AT1}
use Rattle.protocol.specs.declared.command.Command.TheVariants as command
use Rattle.protocol.specs.Rows.{Row, row}

-- the arguments; None where one of the two is neither true nor false
abbrev pub initialize_arguments : Members → Option InitializeArguments
initialize_arguments members = do
  lines ← optional as_bool (property LINES_START_AT1.now members)
  columns ← optional as_bool (property COLUMNS_START_AT1.now members)
  Some (record {
    lines_start_at1 = unwrap_or lines true;
    columns_start_at1 = unwrap_or columns true;
  })

-- the request
abbrev pub initialize_request : Row
initialize_request = row NAME.now initialize_arguments (λ a. command.Initialize a)

lines_from_0 : initialize_arguments (member (codes "linesStartAt1") (boolean false) no_members)
    ≡ Some (record { lines_start_at1 = false; columns_start_at1 = true })
lines_from_0 = refl

columns_from_0 : initialize_arguments (member (codes "columnsStartAt1") (boolean false) no_members)
    ≡ Some (record { lines_start_at1 = true; columns_start_at1 = false })
columns_from_0 = refl
