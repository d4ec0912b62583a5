use Rattle.std.proofs.Common.{◌∙◌, sym, ap}
use Rattle.handlers.specs.declared.demand.Demand.{Demand}
use Rattle.handlers.specs.Refusals.{as_it_stands, demand_by, first_refusal, unmet}
use Rattle.handlers.proofs.Reasons.{first_refusal-later, first_refusal-some}
use Rattle.handlers.proofs.refusals.refusal_by_itself.Goals as goal

pub returns-in-Some : goal.returns-in-Some
returns-in-Some c =
    sym (first_refusal-some (as_it_stands c.args.phase c.args.ask.now) c.in-Some.refusal (unmet c.args.run (demand_by c.args.ask.now))
    (sym c.refusal_as_it_stands.ensures ∙ c.in-Some.is))

pub returns-in-Request : goal.returns-in-Request
returns-in-Request c =
    c.refusal_unmet.ensures ∙ ap (λ (d : Demand). first_refusal (unmet c.args.run d))
    (c.demand_of.ensures ∙ sym (ap demand_by c.in-Request.is))
    ∙ sym (first_refusal-later (as_it_stands c.args.phase c.args.ask.now) (unmet c.args.run (demand_by c.args.ask.now))
    (sym c.refusal_as_it_stands.ensures ∙ c.in-None.is))

pub returns-in-Bad : goal.returns-in-Bad
returns-in-Bad c =
    c.refusal_unmet-in-Bad.ensures ∙ ap (λ (d : Demand). first_refusal (unmet c.args.run d))
    (c.nothing.ensures ∙ sym (ap demand_by c.in-Bad.is))
    ∙ sym (first_refusal-later (as_it_stands c.args.phase c.args.ask.now) (unmet c.args.run (demand_by c.args.ask.now))
    (sym c.refusal_as_it_stands.ensures ∙ c.in-None.is))
