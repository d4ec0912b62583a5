-- Paths are UTF-8.
use Rattle.scripts.proofs.Common.{ap, false, is_utf8, List, None, refl, Some, true, Turn, with_path, ℕ, ◌≡◌}

pub a_path : (text path : List ℕ) → is_utf8 text ≡ true → path ≡ text → Some (Turn (Some path)) ≡ with_path text
a_path text path valid same = rw valid (ap (λ (p : List ℕ). Some (Turn (Some p))) same)

pub no_path : (text : List ℕ) → is_utf8 text ≡ false → None ≡ with_path text
no_path text valid = rw valid refl
