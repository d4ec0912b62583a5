-- Requests that are cancelled, one after the other.
use Rattle.std.proofs.Common.{◌≡◌, ℕ, zero, suc, ◌+◌, ◌<◌, ℤ, Bool, true, false, List, [], ◌∷◌, ◌++◌, length, map, take, drop, refl, sym, ap, ◌∙◌, arith}
use Rattle.std.specs.Prelude.{◌||◌, if◌then◌else◌}
use Rattle.std.specs.List.{list_any}
use Rattle.std.proofs.Common.{slice_index_or, slice_set}
use Rattle.std.proofs.lemmas.List.Folds.{list_any_more}
use Rattle.queues.specs.declared.pending.Fate.{Fate}
use Rattle.queues.specs.declared.pending.Fate.TheVariants.{Waits, NamesNone}
use Rattle.queues.specs.declared.pending.Pending.{Pending}
use Rattle.queues.specs.Arrivals.{is_named, fate_of_cancel}

-- a list whose first elements were changed: the next is as it was, and then it is changed too
pub same_next : {X : Type 0} (f : X → X) (xs : List X) (i : ℕ) (d : X) → i < length xs
    → slice_index_or (map f (take i xs) ++ drop i xs) i d ≡ slice_index_or xs i d
same_next f [] i d h = absurd (omega (arith, h))
same_next f (x ∷ xs) zero d h = refl
same_next f (x ∷ xs) (suc i) d h = same_next f xs i d (omega (arith, h))

changed_next : {X : Type 0} (f : X → X) (xs : List X) (i : ℕ) (d : X) → i < length xs
    → slice_set (map f (take i xs) ++ drop i xs) i (f (slice_index_or xs i d)) ≡ map f (take (suc i) xs) ++ drop (suc i) xs
changed_next f [] i d h = absurd (omega (arith, h))
changed_next f (x ∷ xs) zero d h = refl
changed_next f (x ∷ xs) (suc i) d h = ap (λ ys. f x ∷ ys) (changed_next f xs i d (omega (arith, h)))

pub changes_next : {X : Type 0} (f : X → X) (xs ys : List X) (i : ℕ) (x y : X) → i < length xs → ys ≡ map f (take i xs) ++ drop i xs
    → x ≡ slice_index_or ys i x → y ≡ f x
    → slice_set ys i y ≡ map f (take (i + 1) xs) ++ drop (i + 1) xs
changes_next f xs ys i x y h e at is =
    let same : x ≡ slice_index_or xs i x = at ∙ ap (λ l. slice_index_or l i x) e ∙ same_next f xs i x h in
    let more : i + 1 ≡ suc i = omega arith in
    ap (λ l. slice_set l i y) e ∙ ap (λ z. slice_set (map f (take i xs) ++ drop i xs) i z) (is ∙ ap f same)
    ∙ changed_next f xs i x h ∙ ap (λ n. map f (take n xs) ++ drop n xs) (sym more)

fate_if : Bool → Fate
fate_if b = if b then Waits else NamesNone

-- what becomes of a `cancel`, with one request more
fate_by : (seen named : Bool) → fate_if (seen || named) ≡ (if named then Waits else fate_if seen)
unfolding fate_if
fate_by true true = refl
fate_by true false = refl
fate_by false true = refl
fate_by false false = refl

pub fate_next : (id : ℤ) (xs ys : List Pending) (f : Pending → Pending) (i : ℕ) (x : Pending) (named : Bool) → i < length xs
    → ys ≡ map f (take i xs) ++ drop i xs → x ≡ slice_index_or ys i x → named ≡ is_named id x
    → (if named then Waits else fate_of_cancel id (take i xs)) ≡ fate_of_cancel id (take (i + 1) xs)
unfolding fate_if
fate_next id xs ys f i x named h e at is =
    let same : x ≡ slice_index_or xs i x = at ∙ ap (λ l. slice_index_or l i x) e ∙ same_next f xs i x h in
    sym (ap fate_if (list_any_more (is_named id) xs i x h ∙ ap (λ b. list_any (is_named id) (take i xs) || b)
    (ap (is_named id) (sym same) ∙ sym is))
    ∙ fate_by (list_any (is_named id) (take i xs)) named)
