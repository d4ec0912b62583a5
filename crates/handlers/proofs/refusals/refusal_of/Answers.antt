use Rattle.std.proofs.Common.{◌∙◌, ◌++◌, sym, Some, [], ◌∷◌}
use Rattle.protocol.specs.declared.refusal.Refusal.TheVariants.{RequestGone}
use Rattle.handlers.specs.Refusals.{as_it_stands, demand_by, unmet}
use Rattle.handlers.proofs.Reasons.{first_refusal-later, first_refusal-none, first_refusal-some}
use Rattle.handlers.proofs.refusals.refusal_of.Goals as goal

pub returns-in-Waits : goal.returns-in-Waits
returns-in-Waits c =
    rw c.in-Waits.is (c.refusal_by_itself.ensures ∙ sym
    (first_refusal-none (as_it_stands c.args.phase c.args.pending.now.ask ++ unmet c.args.run (demand_by c.args.pending.now.ask))))

pub returns-in-Some : goal.returns-in-Some
returns-in-Some c =
    rw c.in-NamesNone.is
    (sym (first_refusal-some
    (as_it_stands c.args.phase c.args.pending.now.ask ++ unmet c.args.run (demand_by c.args.pending.now.ask)) c.in-Some.refusal
    (Some RequestGone ∷ [])
    (sym c.refusal_by_itself-in-NamesNone.ensures ∙ c.in-Some.is)))

pub returns-in-None : goal.returns-in-None
returns-in-None c =
    rw c.in-NamesNone.is
    (sym (first_refusal-later (as_it_stands c.args.phase c.args.pending.now.ask ++ unmet c.args.run (demand_by c.args.pending.now.ask))
    (Some RequestGone ∷ [])
    (sym c.refusal_by_itself-in-NamesNone.ensures ∙ c.in-None.is)))
