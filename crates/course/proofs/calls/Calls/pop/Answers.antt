use Rattle.course.proofs.Common.{ap, arith, Buffer, drop, Kept, popped, slice_get, unnoted, ℕ, ◌-◌, ◌∙◌, ◌≡◌, ◌≤◌}
use Rattle.course.proofs.Calling.{pop_back}

pub returns-clause-back : Rattle.course.proofs.calls.Calls.pop.Goals.returns-clause-back
returns-clause-back c =
    let old = c.self.inside.addresses in
    let k : Kept = record { depth = c.self.inside.depth; calls = old.items } in
    let items : c.pop_front.new.self.items ≡ drop 1 old.items = ap (λ (b : Buffer ℕ). b.items) c.pop_front.ensures.items in
    let result : c.popped.result ≡ popped (slice_get old.items 0) = c.popped.ensures ∙ ap popped c.pop_front.ensures.value in
    let some : 1 ≤ c.self.inside.depth = omega (arith, c.if-self-eq0.false) in
    (λ j. unnoted (result j) (record { depth = c.self.inside.depth - 1; calls = items j }))
    ∙ pop_back k c.self.invariant.2 some
    ∙ c.self.view_is
