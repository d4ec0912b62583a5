use Rattle.statements.proofs.Common.{ap, or_bad, Some, sym, ◌∙◌}
use Rattle.statements.proofs.Registers.{register_named, register_none}
use Rattle.statements.proofs.forms.register_in.Goals as goal

pub returns-in-Some : goal.returns-in-Some
returns-in-Some c =
    ap or_bad (ap (λ n. Some n) c.new.ensures ∙ sym (register_named c.args.text.now c.in-Some.number c.in-Some.ensures))

pub returns-in-None : goal.returns-in-None
returns-in-None c = sym (ap or_bad (register_none c.args.text.now c.in-None.ensures))
