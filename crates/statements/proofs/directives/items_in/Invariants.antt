use Rattle.statements.proofs.Common.{fields_after, items_in, items_of, option_copied, ◌≡◌}
use Rattle.statements.proofs.Fields.{followed_by}
use Rattle.byte_strings.proofs.Divided.{left}
use Rattle.statements.proofs.directives.items_in.Given as goal

abbrev pub invariant-fields : goal.invariant-fields
invariant-fields l = items_in l.width l.text ≡ followed_by l.list.items (items_of l.width (fields_after 44 (option_copied l.rest)))

abbrev pub decreases-fields : goal.decreases-fields
decreases-fields l = left (option_copied l.rest)
