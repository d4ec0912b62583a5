use Rattle.statements.proofs.Common.{are_formed, fields_after, is_formed, list_all, map, option_copied, trimmed, ◌≡◌}
use Rattle.byte_strings.proofs.Divided.{left}
use Rattle.statements.proofs.directives.are_formed.Given as goal

abbrev pub invariant-fields : goal.invariant-fields
invariant-fields l = are_formed l.width l.text ≡ list_all (is_formed l.width) (map trimmed (fields_after 44 (option_copied l.rest)))

abbrev pub decreases-fields : goal.decreases-fields
decreases-fields l = left (option_copied l.rest)
