-- What a search of a list from its first element on finds, by indexes.
use Rattle.image.proofs.Common.{[], AllWithin, ap, arith, Bool, cond, false, get_or, length, List, None, not, refl, slice_get, Some, suc, sym, true, zero, ℕ, ◌<◌, ◌∙◌, ◌∷◌, ◌≡◌, ◌≤◌}
use Rattle.std.specs.List.{find}

-- an element that a search finds: the first that passes
pub record FoundAt {X : Type 0} (p : X → Bool) (xs : List X) (x : X) : Type 0 where
  pub index : ℕ
  pub within : index < length xs
  pub there : (d : X) → get_or xs index d ≡ x
  pub passes : p x ≡ true
  pub before : (j : ℕ) (d : X) → j < index → p (get_or xs j d) ≡ false

before_suc : {X : Type 0} (p : X → Bool) (y : X) (ys : List X) (k : ℕ) → p y ≡ false → ((j : ℕ) (d : X) → j < k → p (get_or ys j d) ≡ false)
    → (j : ℕ) (d : X) → j < suc k → p (get_or (y ∷ ys) j d) ≡ false
before_suc p y ys k fails before zero d h = fails
before_suc p y ys k fails before (suc j) d h = before j d (omega arith)

pub found_at : {X : Type 0} (p : X → Bool) (xs : List X) (x : X) → find p xs ≡ Some x → FoundAt p xs x
found_at p [] x e = cc
found_at {X} p (y ∷ ys) x e =
    let P : Bool → Type 0 = λ t. p y ≡ t → cond t (Some y) (find p ys) ≡ Some x → FoundAt p (y ∷ ys) x in
    let go : P (p y) = elim (p y) as P [
      | true ↦ λ t e.
          let same : y ≡ x = cc in
          record { index = 0; within = omega arith; there = λ d. same; passes = rw (sym same) t; before = λ j d h. absurd (omega arith) }
      | false ↦ λ t e.
          let f = found_at p ys x e in
          let within : f.index < length ys = f.within in
          record {
            index = suc f.index;
            within = omega arith;
            there = f.there;
            passes = f.passes;
            before = before_suc p y ys f.index t f.before;
          }
    ] in
    go refl e

pub all_fail : {X : Type 0} (p : X → Bool) (xs : List X) → find p xs ≡ None → (j : ℕ) (d : X) → j < length xs → p (get_or xs j d) ≡ false
all_fail p [] e j d h = absurd (omega arith)
all_fail {X} p (y ∷ ys) e j d h =
    let P : Bool → Type 0 = λ t. p y ≡ t → cond t (Some y) (find p ys) ≡ None → p (get_or (y ∷ ys) j d) ≡ false in
    let go : P (p y) = elim (p y) as P [
      | true ↦ λ t e. cc
      | false ↦ λ t e. before_suc p y ys (length ys) t (all_fail p ys e) j d (omega arith)
    ] in
    go refl e

pub first_at : {X : Type 0} (p : X → Bool) (xs : List X) (k : ℕ) (d : X) → k < length xs → p (get_or xs k d) ≡ true
    → ((j : ℕ) → j < k → p (get_or xs j d) ≡ false) → find p xs ≡ Some (get_or xs k d)
first_at p [] k d within passes before = absurd (omega arith)
first_at p (x ∷ xs) zero d within passes before = rw passes refl
first_at p (x ∷ xs) (suc k) d within passes before =
    let fails : p x ≡ false = before 0 (omega arith) in
    rw fails (first_at p xs k d (omega arith) passes (λ j h. before (suc j) (omega arith)))

pub none_found : {X : Type 0} (p : X → Bool) (xs : List X) → ((j : ℕ) (d : X) → j < length xs → p (get_or xs j d) ≡ false)
    → find p xs ≡ None
none_found p [] fail = refl
none_found p (x ∷ xs) fail =
    let fails : p x ≡ false = fail 0 x (omega arith) in
    rw fails (none_found p xs (λ j d h. fail (suc j) d (omega arith)))

-- where all before an index fail and none from there on does, the search finds what stands there
pub found_from_point : {X : Type 0} (p q : X → Bool) (xs : List X) (k : ℕ) → ((x : X) → q x ≡ not (p x)) → k ≤ length xs
    → AllWithin (λ y. p y ≡ true) xs 0 k → AllWithin (λ y. p y ≡ false) xs k (length xs) → find q xs ≡ slice_get xs k
found_from_point p q [] k other bound low high = refl
found_from_point p q (x ∷ xs) zero other bound low high =
    let fails : p x ≡ false = high 0 x (omega arith) (omega arith) in
    let passes : q x ≡ true = other x ∙ ap not fails in
    rw passes refl
found_from_point p q (x ∷ xs) (suc k) other bound low high =
    let holds : p x ≡ true = low 0 x (omega arith) (omega arith) in
    let fails : q x ≡ false = other x ∙ ap not holds in
    rw fails (found_from_point p q xs k other (omega arith) (λ j d l h. low (suc j) d (omega arith) (omega arith))
    (λ j d l h. high (suc j) d (omega arith) (omega arith)))
