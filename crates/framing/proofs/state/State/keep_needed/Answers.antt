use Rattle.framing.proofs.Common.{ap, drop, Option, rules, sym, ◌∙◌}
use Rattle.framing.specs.declared.state.Mark.{Mark}
use Rattle.framing.proofs.Holding.{held_by, Needed, needed}
use Rattle.framing.proofs.state.State.keep_needed.Goals as goal
use Rattle.framing.proofs.state.State.keep_needed.Goals.{After-shrink_to_fit}

-- what is held, once what is needed for nothing is gone
it : (c : After-shrink_to_fit) → Needed c.self.inside c.min-read.result c.max.result c.in-Some.mark c.shrink_to_fit.new.self.items
it c =
    rw (c.shrink_to_fit.ensures.items ∙ c.drop_bytes.ensures.items ∙ ap (drop c.min-read.result) c.truncate.ensures.items)
    (needed c.self.inside c.min-read.result c.max.result c.in-Some.mark c.self.invariant.holds
    (rw c.in-Some.is at c.self.invariant.mark_holds) (rw (← c.self.view_is) at c.requires)
    (search rules) (search rules) (search rules) (search rules))

pub invariant_of-self : goal.invariant_of-self
invariant_of-self c = (it (goal.at.invariant_of-self c).After-shrink_to_fit).fits

pub returns : goal.returns
returns c =
    let s = c.self.inside in
    (it (goal.at.returns c).After-shrink_to_fit).same
    ∙ ap (λ (o : Option Mark). held_by s.limit s.bytes.items s.place s.done s.start o) (sym c.in-Some.is) ∙ c.self.view_is
