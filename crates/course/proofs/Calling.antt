-- What is kept of an instruction undoes what it did to the calls.
use Rattle.course.proofs.Common.{[], ap, arith, Bool, CanBeKept, drop, false, keep_last, Kept, length, length-drop, length-take, List, None, Option, Pop, popped, Push, pushed, refl, slice_get, Some, suc, swapped, sym, take, take_all, true, unnoted, with_mark, with_mark_if, zero, ℕ, ◌++◌, ◌+◌, ◌-◌, ◌<◌, ◌^◌, ◌∙◌, ◌∷◌, ◌≡◌, ◌≤◌}

abbrev added : Option ℕ → List ℕ → List ℕ
added None l = l
added (Some a) l = l ++ a ∷ []

added_later : (o : Option ℕ) (x : ℕ) (l : List ℕ) → added o (x ∷ l) ≡ x ∷ added o l
added_later None x l = refl
added_later (Some a) x l = refl

abbrev kept_of : ℕ → List ℕ → Kept
kept_of depth calls = record { depth = depth; calls = calls }

-- the last that fits, and those before it
forgets : (n : ℕ) (l : List ℕ) → length l ≤ suc n → added (slice_get l n) (take n l) ≡ l
forgets zero [] h = refl
forgets zero (x ∷ []) h = refl
forgets zero (x ∷ y ∷ l) h = absurd (omega (arith, h))
forgets (suc n) [] h = refl
forgets (suc n) (x ∷ l) h = added_later (slice_get l n) x (take n l) ∙ ap (λ (k : List ℕ). x ∷ k) (forgets n l (omega (arith, h)))

-- a call
pub push_back : (k : Kept) (pc : ℕ) → length k.calls ≤ 256 → unnoted (pushed (slice_get (pc ∷ k.calls) 256)) (with_mark k (Push pc)) ≡ k
push_back k pc h = by (slice_get k.calls 255) refl where
  depth : k.depth + 1 - 1 ≡ k.depth
  depth = omega arith

  by : (oldest : Option ℕ) → slice_get k.calls 255 ≡ oldest → unnoted (pushed oldest) (with_mark k (Push pc)) ≡ k
  by None e =
      let all : take 255 k.calls ≡ k.calls = ap (λ o. added o (take 255 k.calls)) (sym e) ∙ forgets 255 k.calls h in
      λ j. record { depth = depth j; calls = all j }
  by (Some oldest) e =
      let one : take 255 k.calls ++ oldest ∷ [] ≡ k.calls = ap (λ o. added o (take 255 k.calls)) (sym e) ∙ forgets 255 k.calls h in
      let none : length k.calls - 256 ≡ 0 = omega (arith, h) in
      let all : keep_last 256 (take 255 k.calls ++ oldest ∷ []) ≡ k.calls = ap (λ (l : List ℕ). keep_last 256 l) one
      ∙ ap (λ (n : ℕ). drop n k.calls) none in
      λ j. record { depth = depth j; calls = all j }

-- a return, where a call was open
pub pop_back : (k : Kept) → length k.calls ≤ 256 → 1 ≤ k.depth → unnoted (popped (slice_get k.calls 0)) (with_mark k Pop) ≡ k
pop_back k h some = by k.calls h where
  depth : k.depth - 1 + 1 ≡ k.depth
  depth = omega (arith, some)

  by : (calls : List ℕ) → length calls ≤ 256
      → unnoted (popped (slice_get calls 0)) (kept_of (k.depth - 1) (drop 1 calls)) ≡ kept_of k.depth calls
  by [] fits = ap (λ (d : ℕ). kept_of d []) depth
  by (newest ∷ calls) fits =
      let all : take 256 (newest ∷ calls) ≡ newest ∷ calls = take_all 256 (newest ∷ calls) fits in
      λ j. kept_of (depth j) (all j)

-- where none was, there is nothing to undo
pub none_back : (k : Kept) → length k.calls ≤ k.depth → k.depth ≡ 0 → k ≡ with_mark k Pop
none_back k h none = by k.calls h where
  depth : k.depth ≡ k.depth - 1
  depth = omega (arith, none)

  by : (calls : List ℕ) → length calls ≤ k.depth → kept_of k.depth calls ≡ kept_of (k.depth - 1) (drop 1 calls)
  by [] fits = ap (λ (d : ℕ). kept_of d []) depth
  by (newest ∷ calls) fits = absurd (omega (arith, fits, none))

-- both, where a call was open
pub swap_back : (k : Kept) (pc : ℕ) → length k.calls ≤ 256 → 1 ≤ k.depth
    → unnoted (swapped (slice_get k.calls 0)) (with_mark (with_mark k Pop) (Push pc)) ≡ k
swap_back k pc h some = by k.calls h where
  depth : k.depth - 1 + 1 ≡ k.depth
  depth = omega (arith, some)

  by : (calls : List ℕ) → length calls ≤ 256
      → unnoted (swapped (slice_get calls 0)) (kept_of (k.depth - 1 + 1) (take 256 (pc ∷ drop 1 calls))) ≡ kept_of k.depth calls
  by [] fits = ap (λ (d : ℕ). kept_of d []) depth
  by (newest ∷ calls) fits =
      let less : length calls ≤ 255 = omega (arith, fits) in
      let rest : take 255 calls ≡ calls = take_all 255 calls less in
      let all : take 256 (newest ∷ calls) ≡ newest ∷ calls = take_all 256 (newest ∷ calls) fits in
      ap (λ (l : List ℕ). kept_of (k.depth - 1 + 1) (take 256 (newest ∷ l))) rest ∙ λ j. kept_of (depth j) (all j)

-- ---- what may be kept

push_fits : (k : Kept) (pc : ℕ) → CanBeKept k → k.depth < 2 ^ 64 - 1 → CanBeKept (with_mark k (Push pc))
push_fits k pc h less =
    let t = length-take 256 (pc ∷ k.calls) in
    let deep = h.deep in
    record { deep = omega (arith, t, deep); few = omega (arith, t); counted = omega (arith, less) }

pop_fits : (k : Kept) → CanBeKept k → CanBeKept (with_mark k Pop)
pop_fits k h =
    let d = length-drop 1 k.calls in
    let deep = h.deep in
    let few = h.few in
    let counted = h.counted in
    record { deep = omega (arith, d, deep); few = omega (arith, d, few); counted = omega (arith, counted) }

pub marks_fit : (pops pushes : Bool) (k : Kept) (pc : ℕ) → CanBeKept k → k.depth < 2 ^ 64 - 1
    → CanBeKept (with_mark_if pushes (Push pc) (with_mark_if pops Pop k))
marks_fit false false k pc h less = h
marks_fit false true k pc h less = push_fits k pc h less
marks_fit true false k pc h less = pop_fits k h
marks_fit true true k pc h less =
    let still : k.depth - 1 < 2 ^ 64 - 1 = omega (arith, less) in
    push_fits (with_mark k Pop) pc (pop_fits k h) still
