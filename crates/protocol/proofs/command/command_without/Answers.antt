-- What is known with an object is known without one, and refused.
use Rattle.std.proofs.Common.{sym, ◌∙◌}
use Rattle.serde_json.specs.View.{members_view}
use Rattle.protocol.specs.Commands.{requests}
use Rattle.protocol.proofs.Requests.{without_object}
use Rattle.protocol.proofs.command.command_without.Goals as goal

pub returns-in-Ok-None : goal.returns-in-Ok-None
returns-in-Ok-None c =
    (without_object requests c.args.name.now (members_view c.new.result.entries)).unknown
    (rw c.in-Ok-None.field-0-is at c.in-Ok-None.ensures)

pub returns-in-Ok-Some : goal.returns-in-Ok-Some
returns-in-Ok-Some c bad =
    (without_object requests c.args.name.now (members_view c.new.result.entries)).known
    (λ unknown. let found = sym (rw c.in-Ok-Some.field-0-is at c.in-Ok-Some.ensures) ∙ unknown in cc)

pub returns : goal.returns
returns c bad =
    (without_object requests c.args.name.now (members_view c.new.result.entries)).known
    (λ unknown. let refused = sym (c.in-Err.ensures bad) ∙ unknown in cc)
