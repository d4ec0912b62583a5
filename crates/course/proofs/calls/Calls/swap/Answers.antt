use Rattle.course.proofs.Common.{ap, arith, Buffer, drop, Kept, length, length-drop, length-take, List, slice_get, subst, swapped, sym, take, unnoted, ℕ, ◌+◌, ◌-◌, ◌∙◌, ◌∷◌, ◌≡◌, ◌≤◌}
use Rattle.course.proofs.Calling.{swap_back}
use Rattle.course.proofs.calls.Calls.swap.Goals as goal

pub invariant_of-self : goal.invariant_of-self
invariant_of-self c =
    let old = c.self.inside.addresses in
    let popped = ap (λ (b : Buffer ℕ). b.items) c.pop_front-returned.ensures.items in
    let room = ap (λ (b : Buffer ℕ). b.capacity) c.pop_front-returned.ensures.items ∙ c.self.invariant.0 in
    let items : c.push_front.new.self.items ≡ take 256 (c.args.pc ∷ drop 1 old.items) = ap
    (λ (b : Buffer ℕ). b.items) c.push_front.ensures.items
    ∙ ap (λ (n : ℕ). take n (c.args.pc ∷ c.pop_front-returned.new.self.items)) room
    ∙ ap (λ (l : List ℕ). take 256 (c.args.pc ∷ l)) popped in
    let some : 1 ≤ c.self.inside.depth = omega (arith, c.if-self-eq0.false) in
    let d = length-drop 1 old.items in
    let t = length-take 256 (c.args.pc ∷ drop 1 old.items) in
    let deep = c.self.invariant.1 in
    let fits : length (take 256 (c.args.pc ∷ drop 1 old.items)) ≤ c.self.inside.depth = omega (arith, some, d, t, deep) in
    let few : length (take 256 (c.args.pc ∷ drop 1 old.items)) ≤ 256 = omega (arith, t) in (
      ap (λ (b : Buffer ℕ). b.capacity) c.push_front.ensures.items ∙ room,
      subst (λ (l : List ℕ). length l ≤ c.self.inside.depth) (sym items) fits,
      subst (λ (l : List ℕ). length l ≤ 256) (sym items) few,
    )

pub returns-clause-back : goal.returns-clause-back
returns-clause-back c =
    let old = c.self.inside.addresses in
    let k : Kept = record { depth = c.self.inside.depth; calls = old.items } in
    let popped = ap (λ (b : Buffer ℕ). b.items) c.pop_front-returned.ensures.items in
    let room = ap (λ (b : Buffer ℕ). b.capacity) c.pop_front-returned.ensures.items ∙ c.self.invariant.0 in
    let items : c.push_front.new.self.items ≡ take 256 (c.args.pc ∷ drop 1 old.items) = ap
    (λ (b : Buffer ℕ). b.items) c.push_front.ensures.items
    ∙ ap (λ (n : ℕ). take n (c.args.pc ∷ c.pop_front-returned.new.self.items)) room
    ∙ ap (λ (l : List ℕ). take 256 (c.args.pc ∷ l)) popped in
    let result : c.swapped.result ≡ swapped (slice_get old.items 0) = c.swapped.ensures ∙ ap swapped c.pop_front-returned.ensures.value in
    let some : 1 ≤ c.self.inside.depth = omega (arith, c.if-self-eq0.false) in
    let depth : c.self.inside.depth ≡ c.self.inside.depth - 1 + 1 = omega (arith, some) in
    (λ j. unnoted (result j) (record { depth = depth j; calls = items j }))
    ∙ swap_back k c.args.pc c.self.invariant.2 some
    ∙ c.self.view_is
