use Rattle.statements.proofs.Common.{ap, set_in, ◌∙◌}
use Rattle.statements.proofs.Registers.{named_text}

pub returns-in-Some : Rattle.statements.proofs.forms.set_in.Goals.returns-in-Some
returns-in-Some c = c.set_named.ensures ∙ ap set_in (c.as_str.ensures ∙ (named_text _ _ _ c.in-Some.ensures).1)
