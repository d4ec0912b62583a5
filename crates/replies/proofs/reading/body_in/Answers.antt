use Rattle.replies.proofs.Common.{all_taken, AllByRecursion, bytes_eq, false, list_any, rules, sym, Taken, without_body, ◌∙◌, ◌≡◌}
use Rattle.serde_json.specs.View.{view}
use Rattle.replies.proofs.BodyTable.{unknown_has_none}

pub returns-in_default-2 : Rattle.replies.proofs.reading.body_in.Goals.returns-in_default-2
returns-in_default-2 c =
    let others : AllByRecursion (λ (t : Taken). c.args.command.now ≡ t.command → ⊥) all_taken = search rules in
    let none : list_any (bytes_eq c.args.command.now) without_body ≡ false = sym c.is_without_body.ensures ∙ c.if-is_without_body.false in
    λ _. unknown_has_none all_taken c.args.command.now (view c.args.value.now) others none
