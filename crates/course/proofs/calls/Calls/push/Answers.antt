use Rattle.course.proofs.Common.{ap, Buffer, Kept, pushed, slice_get, take, unnoted, ℕ, ◌+◌, ◌∙◌, ◌∷◌, ◌≡◌}
use Rattle.course.proofs.Calling.{push_back}

pub returns-clause-back : Rattle.course.proofs.calls.Calls.push.Goals.returns-clause-back
returns-clause-back c =
    let old = c.self.inside.addresses in
    let k : Kept = record { depth = c.self.inside.depth; calls = old.items } in
    let items : c.push_front.new.self.items ≡ take 256 (c.args.pc ∷ old.items) = ap (λ (b : Buffer ℕ). b.items) c.push_front.ensures.items
    ∙ ap (λ (n : ℕ). take n (c.args.pc ∷ old.items)) c.self.invariant.0 in
    let result : c.pushed.result ≡ pushed (slice_get (c.args.pc ∷ old.items) 256) = c.pushed.ensures
    ∙ ap pushed c.push_front.ensures.value
    ∙ ap (λ (n : ℕ). pushed (slice_get (c.args.pc ∷ old.items) n)) c.self.invariant.0 in
    (λ j. unnoted (result j) (record { depth = c.self.inside.depth + 1; calls = items j }))
    ∙ push_back k c.args.pc c.self.invariant.2
    ∙ c.self.view_is
