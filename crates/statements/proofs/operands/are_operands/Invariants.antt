use Rattle.statements.proofs.Common.{each_operand, fields_after, is_operand, list_all, map, option_copied, trimmed, ◌≡◌}
use Rattle.byte_strings.proofs.Divided.{left}
use Rattle.statements.proofs.operands.are_operands.Given as goal

abbrev pub invariant-fields : goal.invariant-fields
invariant-fields l = list_all is_operand (each_operand l.text) ≡ list_all is_operand (map trimmed (fields_after 44 (option_copied l.rest)))

abbrev pub decreases-fields : goal.decreases-fields
decreases-fields l = left (option_copied l.rest)
