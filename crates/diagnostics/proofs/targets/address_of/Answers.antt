use Rattle.diagnostics.proofs.Common.{ap, defined, labels_of, looked_up, named, ◌∙◌}
use Rattle.diagnostics.proofs.targets.address_of.Goals as goal

pub returns-in-Some : goal.returns-in-Some
returns-in-Some c =
    ap defined (c.in-Some.ensures.value ∙ looked_up c.args.labels.now.entries c.as_str.result.now
    ∙ ap (named (labels_of c.args.labels.now.entries)) c.as_str.ensures)

pub returns-in-None : goal.returns-in-None
returns-in-None c =
    ap defined (c.in-None.ensures.value ∙ looked_up c.args.labels.now.entries c.as_str.result.now
    ∙ ap (named (labels_of c.args.labels.now.entries)) c.as_str.ensures)
