use Rattle.framing.proofs.Common.{ap, first_of, List, parts_of, range, sym, Unframed, ℕ, ◌∙◌}
use Rattle.framing.proofs.Holding.{first_waits, none_waits}
use Rattle.framing.proofs.state.State.peek_body.Goals as goal

pub returns-in_default : goal.returns-in_default
returns-in_default c =
    let s = c.self.inside in
    let parts = ap (λ (l : List ℕ). parts_of s.first (range l s.place s.done)) (sym c.deref.ensures.value)
    ∙ sym (rw c.in_default.is at c.parts.ensures.parts) in
    (none_waits s c.self.invariant.holds parts).0 ∙ ap (λ (k : Unframed). first_of k.waiting) c.self.view_is

pub returns : goal.returns
returns c =
    let s = c.self.inside in
    let parts = ap (λ (l : List ℕ). parts_of s.first (range l s.place s.done)) (sym c.deref.ensures.value) ∙ sym c.in-Some.ensures.parts in
    (first_waits s c.in-Some.body.now c.in-Some.field-0-1.now c.self.invariant.holds parts).body_is
    ∙ ap (λ (k : Unframed). first_of k.waiting) c.self.view_is
