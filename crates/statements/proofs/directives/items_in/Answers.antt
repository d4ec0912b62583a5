use Rattle.statements.proofs.Common.{ap, fields, fields_after, item_in, items_in, Ok, option_copied, refl, rules, trimmed, ◌∙◌, ◌≡◌}
use Rattle.statements.proofs.Fields.{one_more}

pub fields-preserved : Rattle.statements.proofs.directives.items_in.Goals.fields-preserved
fields-preserved c =
    let field = c.first_field.result.0.now in
    let rest : fields_after 44 (option_copied c.fields.rest) ≡ fields 44 c.in-Some.fields.now = ap
    (λ r. fields_after 44 (option_copied r)) c.in-Some.is in
    let read : item_in c.args.width (trimmed field) ≡ Ok c.in-Ok.item = search rules in
    one_more (items_in c.args.width c.args.text.now) c.args.width c.fields.list.items c.push.new.self.items field _ _ c.in-Ok.item c.fields.invariant (rest ∙ c.first_field.ensures.fields) read (c.push.ensures.items ∙ rw c.if-is_err.ensures.negation refl)
