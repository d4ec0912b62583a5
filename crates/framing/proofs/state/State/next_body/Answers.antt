use Rattle.framing.proofs.Common.{ap, first_of, lent_from, List, parts_of, range, refl, sym, Unframed, ℕ, ◌∙◌}
use Rattle.framing.proofs.Ends.{past_nothing}
use Rattle.framing.proofs.Holding.{First, first_waits, none_waits}
use Rattle.framing.proofs.state.State.next_body.Goals as goal
use Rattle.framing.proofs.state.State.next_body.Goals.{In-Some}

pub of-first-requires : goal.of-first-requires
of-first-requires c = past_nothing c.in-Some.after.now

pub returns-in_default : goal.returns-in_default
returns-in_default c =
    let s = c.self.inside in
    let parts = ap (λ (l : List ℕ). parts_of s.first (range l s.place s.done)) (sym c.deref.ensures.value)
    ∙ sym (rw c.in_default.is at c.parts.ensures.parts) in
    let none = none_waits s c.self.invariant.holds parts in (
      (refl, λ _. tt, none.1 ∙ ap lent_from c.self.view_is),
      record { body = none.0 ∙ ap (λ (k : Unframed). first_of k.waiting) c.self.view_is; after = tt },
    )

-- the first body that waits
first : (c : In-Some) → First c.self.inside c.in-Some.body.now c.in-Some.after.now
first c =
    let s = c.self.inside in
    first_waits s c.in-Some.body.now c.in-Some.after.now c.self.invariant.holds
    (ap (λ (l : List ℕ). parts_of s.first (range l s.place s.done)) (sym c.deref.ensures.value) ∙ sym c.in-Some.ensures.parts)

pub invariant_of-self-2 : goal.invariant_of-self-2
invariant_of-self-2 c = record {
  holds = (first (goal.at.invariant_of-self-2 c).In-Some).holds c.of-first.result c.of-first.ensures;
  mark_holds = c.self.invariant.mark_holds;
}

pub returns : goal.returns
returns c =
    let f = first (goal.at.returns c).In-Some in (
      (refl, λ _. tt, f.lent ∙ ap lent_from c.self.view_is),
      record { body = f.body_is ∙ ap (λ (k : Unframed). first_of k.waiting) c.self.view_is; after = tt },
    )
