-- Numbers that follow each other: what is left of them, and what is found first.
use Rattle.std.proofs.Common.{◌≡◌, ℕ, suc, ◌+◌, ◌-◌, ◌<◌, ◌≤◌, Bool, false, cond, [], ◌∷◌, Option, Some, sym, ap, ◌∙◌, arith}
use Rattle.std.specs.List.{find, range_with_len}

pub range_with_len-rest : (k n : ℕ) → k < n → range_with_len k (n - k) ≡ k ∷ range_with_len (k + 1) (n - (k + 1))
range_with_len-rest k n h = let e : n - k ≡ suc (n - (k + 1)) = omega arith in ap (range_with_len k) e

pub range_with_len-end : (k n : ℕ) → n ≤ k → range_with_len k (n - k) ≡ []
range_with_len-end k n h = let e : n - k ≡ 0 = omega arith in ap (range_with_len k) e

-- what is found from the next number on, where it is not this one
pub found_later : (p : ℕ → Bool) (k n : ℕ) (r : Option ℕ) → k < n → p k ≡ false → find p (range_with_len k (n - k)) ≡ r
    → find p (range_with_len (k + 1) (n - (k + 1))) ≡ r
found_later p k n r h is e =
    sym (ap (λ (b : Bool). cond b (Some k) (find p (range_with_len (k + 1) (n - (k + 1))))) is)
    ∙ sym (ap (find p) (range_with_len-rest k n h)) ∙ e
