-- Hits, counted over many checks.
use Rattle.breakpoints.proofs.Common.{[], ap, arith, Bool, cond, counted, false, fresh, is_hit, is_reached, le-leb, leb, leb-false, leb-true, List, lt-leb, min, Placed, refl, reset, true, with_hit, ℕ, ◌&&◌, ◌+◌, ◌∙◌, ◌∷◌, ◌≡◌, ◌≤◌}
use Rattle.std.specs.Prelude.{Option, is_some, not}
use Rattle.breakpoints.specs.Laws.{Check, LogsFromItsHit, ResetCountsAnew, after_checks, hits_among, is_reached_at}

abbrev with_hits : ℕ → Placed → Placed
with_hits n b = record b { hits = n }

most : (a b : ℕ) → min (min a 4294967295 + b) 4294967295 ≡ min (a + b) 4294967295
most a b = omega arith

least : (a : ℕ) → a ≤ 4294967295 → min a 4294967295 ≡ a
least a h = omega (arith, h)

one_check : (c : Check) (b : Placed) → b.hits ≤ 4294967295
    → counted c.pc c.hart c.memory b ≡ with_hits (min (b.hits + cond (is_hit c.pc c.hart c.memory b) 1 0) 4294967295) b
one_check c b h = go (is_hit c.pc c.hart c.memory b) where
  go : (t : Bool) → cond t (with_hit b) b ≡ with_hits (min (b.hits + cond t 1 0) 4294967295) b
  go true = refl
  go false = let e : b.hits ≡ min (b.hits + 0) 4294967295 = omega (arith, h) in ap (λ n. with_hits n b) e

-- only the count changes, so the hits among later checks are those that they would be
same_hits : (checks : List Check) (n : ℕ) (b : Placed) → hits_among checks (with_hits n b) ≡ hits_among checks b
same_hits [] n b = refl
same_hits (c ∷ checks) n b = ap (λ k. cond (is_hit c.pc c.hart c.memory b) 1 0 + k) (same_hits checks n b)

pub counts : (checks : List Check) (b : Placed) → b.hits ≤ 4294967295
    → after_checks checks b ≡ with_hits (min (b.hits + hits_among checks b) 4294967295) b
counts [] b h = let e : b.hits ≡ min (b.hits + 0) 4294967295 = omega (arith, h) in ap (λ n. with_hits n b) e
counts (c ∷ checks) b h =
    let one : ℕ = cond (is_hit c.pc c.hart c.memory b) 1 0 in
    let n : ℕ = min (b.hits + one) 4294967295 in
    let small : n ≤ 4294967295 = omega arith in
    ap (after_checks checks) (one_check c b h)
    ∙ counts checks (with_hits n b) small
    ∙ ap (λ k. with_hits (min (n + k) 4294967295) b) (same_hits checks n b)
    ∙ ap (λ k. with_hits k b)
    (let e : min (n + hits_among checks b) 4294967295 ≡ min (b.hits + (one + hits_among checks b)) 4294967295 = omega arith in e)

-- after some checks from where it was not hit yet, it is reached as the law says
after_them : (b : Placed) (checks : List Check)
    → after_checks checks (reset b) ≡ with_hits (min (hits_among checks (reset b)) 4294967295) (reset b)
after_them b checks =
    let n = hits_among checks (reset b) in
    let start : (reset b).hits ≤ 4294967295 = omega arith in
    counts checks (reset b) start
    ∙ ap (λ k. with_hits (min k 4294967295) (reset b)) (let e : 0 + n ≡ n = omega arith in e)

reached_so : (b : Placed) (checks : List Check) (last : Check) → b.hit ≤ 4294967295
    → is_reached last.pc last.hart last.memory (after_checks checks (reset b)) ≡ is_reached_at (reset b) checks last
reached_so b checks last h =
    let n = hits_among checks (reset b) in
    ap (is_reached last.pc last.hart last.memory) (after_them b checks)
    ∙ ap (λ t. is_hit last.pc last.hart last.memory b && t) (reached b.hit n h)
  where
    reached : (hit n : ℕ) → hit ≤ 4294967295 → leb hit (min (min n 4294967295 + 1) 4294967295) ≡ leb hit (n + 1)
    reached hit n h = go (leb hit (n + 1)) refl where
      go : (t : Bool) → leb hit (n + 1) ≡ t → leb hit (min (min n 4294967295 + 1) 4294967295) ≡ t
      go true t = let e = leb-true hit (n + 1) t in le-leb hit _ (omega (arith, e, h))
      go false t = let e = leb-false hit (n + 1) t in lt-leb hit _ (omega (arith, e, h))

-- checks do not change the text
same_log : (b : Placed) (checks : List Check) → (after_checks checks (reset b)).log ≡ b.log
same_log b checks = ap (λ (b : Placed). b.log) (after_them b checks)

pub stops_so : ResetCountsAnew
stops_so b checks last h =
    ap (λ (log : Option (List ℕ)). is_reached last.pc last.hart last.memory (after_checks checks (reset b)) && not (is_some log))
    (same_log b checks)
    ∙ ap (λ (t : Bool). t && not (is_some b.log)) (reached_so b checks last h)

pub logs_so : LogsFromItsHit
logs_so spec checks last h =
    let b = fresh spec in
    ap (λ (log : Option (List ℕ)). is_reached last.pc last.hart last.memory (after_checks checks b) && is_some log) (same_log b checks)
    ∙ ap (λ (t : Bool). t && is_some spec.log) (reached_so b checks last h)
