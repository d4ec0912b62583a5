-- Tests of each number below another, which compute.
use Rattle.std.proofs.Common.{◌≡◌, ℕ, ◌<◌, zero, suc, Bool, true, false, ◌==◌, ◌&&◌, refl, ap, ◌∙◌, arith}
use Rattle.std.proofs.lemmas.Bool.{and_parts}
use Rattle.std.proofs.lemmas.Bool.Decides.{nat_tests}

unfoldable pub all_below : ℕ → (ℕ → Bool) → Bool
all_below zero p = true
all_below (suc k) p = p k && all_below k p

pub all_below_at : (p : ℕ → Bool) (k n : ℕ) → all_below k p ≡ true → n < k → p n ≡ true
unfolding all_below
all_below_at p zero n h l = absurd (omega arith)
all_below_at p (suc k) n h l =
    let P : Bool → Type 0 = λ t. (n == k) ≡ t → p n ≡ true in
    let go : P (n == k) = elim (n == k) as P [
      | true ↦ λ t. let e : n ≡ k = grind (arith, nat_tests) in ap p e ∙ (and_parts (p k) _ h).0
      | false ↦ λ t. let l : n < k = grind (arith, nat_tests) in all_below_at p k n (and_parts (p k) _ h).1 l
    ] in go refl
