use Rattle.std.proofs.Common.{ap, sym, ◌∙◌}
use Rattle.std.specs.Option.{is_some}
use Rattle.assembler.proofs.Labelled.{added, looked_up}
use Rattle.assembler.proofs.layout.add_label.Goals as goal

pub returns-then-contains_key : goal.returns-then-contains_key
returns-then-contains_key c =
    ap is_some (sym (looked_up c.args.labels.now.entries c.args.name.now)) ∙ sym c.contains_key.ensures ∙ c.if-contains_key.true

pub returns : goal.returns
returns c =
    let none = ap is_some (sym (looked_up c.args.labels.now.entries c.args.name.now)) ∙ sym c.contains_key.ensures
    ∙ c.if-contains_key.false in
    (none, added c.args.labels.now c.insert.new.self c.in-Ok.name c.args.name.now c.args.address c.in-Ok.ensures.ok none c.in-Ok-insert.ensures.entries)

pub returns-in_default : goal.returns-in_default
returns-in_default c =
    ap is_some (sym (looked_up c.args.labels.now.entries c.args.name.now)) ∙ sym c.contains_key.ensures ∙ c.if-contains_key.false

pub returns-in_default-insert : goal.returns-in_default-insert
returns-in_default-insert c =
    ap is_some (sym (looked_up c.args.labels.now.entries c.args.name.now)) ∙ sym c.contains_key.ensures ∙ c.if-contains_key.false
