-- Two tests that hold, and a test that holds of each element.
use Rattle.std.proofs.Common.{◌≡◌, ℕ, Bool, true, false, ◌&&◌, List, [], ◌∷◌, ◌++◌, reverse, refl, ◌∙◌}
use Rattle.std.specs.List.{list_all}
use Rattle.std.proofs.lemmas.List.{reverse-append}
use Rattle.std.proofs.lemmas.List.Folds.{list_all-append}

-- the parts of a conjunction
pub and_left : (x y : Bool) → (x && y) ≡ true → x ≡ true
and_left true y h = refl
and_left false y h = h

pub and_right : (x y : Bool) → (x && y) ≡ true → y ≡ true
and_right true y h = h
and_right false y h = cc

pub and_both : (x y : Bool) → x ≡ true → y ≡ true → (x && y) ≡ true
and_both x y a b = rw (a, b) refl

-- a test of each element, of lists end to end and backwards
pub all_append : (p : ℕ → Bool) (xs ys : List ℕ) → list_all p xs ≡ true → list_all p ys ≡ true → list_all p (xs ++ ys) ≡ true
all_append p xs ys a b = list_all-append p xs ys ∙ and_both _ _ a b

reverse_next : (x : ℕ) (xs : List ℕ) → reverse (x ∷ xs) ≡ reverse xs ++ x ∷ []
reverse_next x xs = reverse-append (x ∷ []) xs

pub all_reverse : (p : ℕ → Bool) (xs : List ℕ) → list_all p xs ≡ true → list_all p (reverse xs) ≡ true
all_reverse p [] h = refl
all_reverse p (x ∷ xs) h =
    rw (reverse_next x xs) (all_append p (reverse xs) (x ∷ []) (all_reverse p xs (and_right (p x) _ h)) (rw (and_left (p x) _ h) refl))
