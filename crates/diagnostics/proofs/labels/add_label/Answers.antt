use Rattle.diagnostics.proofs.Common.{added, sym, ◌∙◌}

pub returns-clause-labels : Rattle.diagnostics.proofs.labels.add_label.Goals.returns-clause-labels
returns-clause-labels c =
    let none = sym c.is_defined.ensures ∙ c.if-is_defined.false in
    rw none
    (added c.args.labels.now c.insert.new.self c.in-Ok.name c.args.name.now c.args.address c.in-Ok.ensures.ok none c.in-Ok-insert.ensures.entries)
