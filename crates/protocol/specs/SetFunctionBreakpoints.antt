-- The request `setFunctionBreakpoints` (`SetFunctionBreakpointsRequest`): what its arguments mean.
--
-- The editor says which breakpoints at functions it wants. Each has the function's name, and may have two
-- texts. All three are read later.
use Rattle.std.specs.Prelude.{◌≡◌, [], Option, Some, None, codes, refl}
use Rattle.serde_json.specs.Data.{Data, object, array, no_items, string, Members, no_members, member}
use Rattle.serde_json.specs.Find.{as_object, as_str}
use Rattle.protocol.specs.Properties.{◌>>=◌, property}
use Rattle.protocol.specs.Arguments.{required, optional, list}
use Rattle.protocol.specs.declared.members.TheConstants.{BREAKPOINTS, CONDITION, HIT_CONDITION}
use Rattle.protocol.specs.declared.set_function_breakpoints.FunctionBreakpoint.{FunctionBreakpoint}
use Rattle.protocol.specs.declared.set_function_breakpoints.SetFunctionBreakpointsArguments as given
use Rattle.protocol.specs.declared.set_function_breakpoints.TheConstants.{NAME, FUNCTION_NAME}
use Rattle.protocol.specs.declared.command.Command.TheVariants as command
use Rattle.protocol.specs.Rows.{Row, row}

-- a breakpoint; its function's name has to be there
abbrev pub function_breakpoint : Data → Option FunctionBreakpoint
function_breakpoint value = do
  members ← as_object value
  name ← required as_str (property FUNCTION_NAME.now members)
  condition ← optional as_str (property CONDITION.now members)
  hits ← optional as_str (property HIT_CONDITION.now members)
  Some (record { name = name; condition = condition; hit_condition = hits })

-- the arguments; None where the breakpoints are absent, or one has another type
abbrev pub set_function_breakpoints_arguments : Members → Option given.SetFunctionBreakpointsArguments
set_function_breakpoints_arguments members = do
  breakpoints ← required (list function_breakpoint) (property BREAKPOINTS.now members)
  Some (record { breakpoints = breakpoints })

-- the request
abbrev pub set_function_breakpoints_request : Row
set_function_breakpoints_request =
    row NAME.now set_function_breakpoints_arguments (λ a. command.SetFunctionBreakpoints a)

none_at_all : set_function_breakpoints_arguments (member (codes "breakpoints") (array no_items) no_members)
    ≡ Some (record { breakpoints = [] })
none_at_all = refl

a_list_has_to_be_there : set_function_breakpoints_arguments no_members ≡ None
a_list_has_to_be_there = refl

a_name_has_to_be_there : function_breakpoint
    (object (member (codes "condition") (string (codes "a0")) no_members))
    ≡ None
a_name_has_to_be_there = refl

at_a_function : function_breakpoint
    (object (member (codes "hitCondition") (string (codes "2"))
    (member (codes "name") (string (codes "sort")) no_members)))
    ≡ Some (record { name = codes "sort"; condition = None; hit_condition = Some (codes "2") })
at_a_function = refl
