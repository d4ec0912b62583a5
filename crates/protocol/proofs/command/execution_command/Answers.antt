-- What is no name of the group is a name of the next, or unknown.
use Rattle.std.proofs.Common.{◌≡◌, rules}
use Rattle.std.specs.List.{AllByRecursion}
use Rattle.protocol.specs.Commands.{execution_requests, inspection_requests}
use Rattle.protocol.specs.Rows.{Row}
use Rattle.protocol.proofs.Requests.{others_skipped}

pub returns-in_default : Rattle.protocol.proofs.command.execution_command.Goals.returns-in_default
unfolding execution_requests
returns-in_default c =
    let others : AllByRecursion (λ (r : Row). c.args.name.now ≡ r.name → ⊥) execution_requests = search rules in
    rw (others_skipped execution_requests inspection_requests _ _ others) c.inspection_command.ensures
