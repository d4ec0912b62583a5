use Rattle.diagnostics.proofs.Common.{ap, looked_up, ◌∙◌}
use Rattle.std.specs.Option.{is_some}

pub returns : Rattle.diagnostics.proofs.labels.is_defined.Goals.returns
returns c = c.contains_key.ensures ∙ ap is_some (looked_up c.args.labels.now.entries c.args.name.now)
