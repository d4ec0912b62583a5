-- The request `evaluate` (`EvaluateRequest`): what its arguments mean.
--
-- The editor gives a text, which is read later, and may name a frame by an integer. `context` and
-- `format` are not looked at.
use Rattle.std.specs.Prelude.{None, Option, Some, codes, refl, ◌≡◌, pos}
use Rattle.serde_json.specs.Data.{Members, member, no_members, string, number, unsigned}
use Rattle.serde_json.specs.Find.{as_str}
use Rattle.protocol.specs.Properties.{integer, property, ◌>>=◌}
use Rattle.protocol.specs.Arguments.{optional, required}
use Rattle.protocol.specs.declared.members.TheConstants.{FRAME_ID}
use Rattle.protocol.specs.declared.evaluate.EvaluateArguments.{EvaluateArguments}
use Rattle.protocol.specs.declared.evaluate.TheConstants.{NAME, EXPRESSION}
use Rattle.protocol.specs.declared.command.Command.TheVariants as command
use Rattle.protocol.specs.Rows.{Row, row}

-- the arguments; None where the expression is absent, or one of the two has another type
abbrev pub evaluate_arguments : Members → Option EvaluateArguments
evaluate_arguments members = do
  expression ← required as_str (property EXPRESSION.now members)
  frame_id ← optional integer (property FRAME_ID.now members)
  Some (record { expression = expression; frame_id = frame_id })

-- the request
abbrev pub evaluate_request : Row
evaluate_request = row NAME.now evaluate_arguments (λ a. command.Evaluate a)

in_no_frame : evaluate_arguments (member (codes "expression") (string (codes "a0 + 1")) no_members)
    ≡ Some (record { expression = codes "a0 + 1"; frame_id = None })
in_no_frame = refl

an_expression_has_to_be_there : evaluate_arguments no_members ≡ None
an_expression_has_to_be_there = refl

in_a_frame : evaluate_arguments
    (member (codes "expression") (string (codes "a0"))
    (member (codes "frameId") (number (unsigned 1000)) no_members))
    ≡ Some (record { expression = codes "a0"; frame_id = Some (pos 1000) })
in_a_frame = refl
