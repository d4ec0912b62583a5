use Rattle.image.proofs.Common.{ap, label_address, Table, ◌∙◌}
use Rattle.image.proofs.Named.{looked_up}
use Rattle.image.proofs.lines.LineTable.label_address.Goals as goal

pub returns-in-Some : goal.returns-in-Some
returns-in-Some c =
    c.in-Some.ensures.value ∙ looked_up c.self.inside.labels.entries c.args.name.now
    ∙ ap (λ (t : Table). label_address t c.args.name.now) c.self.view_is

pub returns-in-None : goal.returns-in-None
returns-in-None c =
    c.in-None.ensures.value ∙ looked_up c.self.inside.labels.entries c.args.name.now
    ∙ ap (λ (t : Table). label_address t c.args.name.now) c.self.view_is
