-- One mark more: a push puts its address before the calls that are kept, where the oldest may go, and a pop takes
-- the newest away.
use Rattle.course.proofs.Common.{[], ap, append-nil, arith, Bool, depth_after, depth_through, depths_through, drop, drop-append-le, false, if◌then◌else◌, inl, inr, is_kept, kept_through, length, length-append, List, Mark, max, min, nat_le, nat_lt, nat_tests, Pop, Push, refl, sym, take, take-append-le, take_all, true, ℕ, ◌&&◌, ◌++◌, ◌+◌, ◌-◌, ◌<◌, ◌∙◌, ◌∷◌, ◌≡◌, ◌≤◌, ◌⊎◌}
use Rattle.course.proofs.Depths.{least, greatest, all_above, all_within, least-start, least-end, greatest-end, least-more, greatest-more}

-- whether a push is kept, by the least and the greatest depth since
abbrev pub kept_by : (most before low high : ℕ) → Bool
kept_by most before low high = nat_lt before low && nat_le high (before + most)

pub is_kept-through : (most before depth : ℕ) (marks : List Mark)
    → is_kept most before (depths_through depth marks) ≡ kept_by most before (least depth marks) (greatest depth marks)
is_kept-through most before depth marks =
    rw (all_above before depth marks, all_within (before + most) depth marks)

-- what follows where it is kept, and where it is not
record IsKept (most before low high : ℕ) : Type 0 where
  is_open : before < low
  within : high ≤ before + most

kept_if : (most before low high : ℕ) → true ≡ kept_by most before low high → IsKept most before low high
kept_if most before low high e = record { is_open = grind (arith, nat_tests); within = grind (arith, nat_tests) }

not_kept_if : (most before low high : ℕ) → false ≡ kept_by most before low high → (low ≤ before) ⊎ (before + most < high)
not_kept_if most before low high e = grind (arith, nat_tests)

-- the address of a push, if it is kept
abbrev if_kept : Bool → ℕ → List ℕ
if_kept kept pc = if kept then pc ∷ [] else []

-- The pushes that are kept are the newest that are open, without gaps: where the depth was never as much as `most`
-- above its least, there are as many as it is above its least now.
length_push : (most before low high depth : ℕ) (calls : List ℕ) (pc : ℕ) (kept : Bool) → kept ≡ kept_by most before low high
    → (high < low + most → length calls + low ≡ depth) → low ≤ before + 1 → max before high < min before low + most
    → length (calls ++ if_kept kept pc) + min before low ≡ depth
length_push most before low high depth calls pc true e counted start within =
    let is_kept : IsKept most before low high = kept_if most before low high e in
    let count : length calls + low ≡ depth = counted (omega arith) in
    omega (arith, length-append calls (pc ∷ []))
length_push most before low high depth calls pc false e counted start within =
    let count : length calls + low ≡ depth = counted (omega arith) in
    let not_open : low ≤ before = elim (not_kept_if most before low high e) [ inl h ↦ h | inr h ↦ absurd (omega arith) ] in
    omega (arith, length-append {A = ℕ} calls [])

pub length-kept_through : (most depth : ℕ) (marks : List Mark) → greatest depth marks < least depth marks + most
    → length (kept_through most depth marks) + least depth marks ≡ depth_through depth marks
length-kept_through most depth [] within = omega arith
length-kept_through most depth (Pop ∷ later) within =
    omega (arith, length-kept_through most (depth - 1) later (omega arith), least-start (depth - 1) later)
length-kept_through most depth (Push pc ∷ later) within =
    rw (is_kept-through most depth (depth + 1) later)
    (length_push most depth (least (depth + 1) later) (greatest (depth + 1) later) (depth_through (depth + 1) later)
    (kept_through most (depth + 1) later) pc _ refl (length-kept_through most (depth + 1) later) (least-start (depth + 1) later) within)

-- What is known after a push from the depth `before`: of the depths since the least, the greatest and the last, and
-- the calls that are kept since.
record Since (most before low high depth : ℕ) (calls : List ℕ) : Type 0 where
  counted : high < low + most → length calls + low ≡ depth
  start : low ≤ before + 1
  above : low ≤ depth
  below : depth ≤ high

since_push : (most before : ℕ) (marks : List Mark)
    → Since most before (least (before + 1) marks) (greatest (before + 1) marks) (depth_through (before + 1) marks) (kept_through most (before + 1) marks)
since_push most before marks = record {
  counted = length-kept_through most (before + 1) marks;
  start = least-start (before + 1) marks;
  above = least-end (before + 1) marks;
  below = greatest-end (before + 1) marks;
}

-- A push after it: what is left of the older call, by whether it was kept and whether it still is.
push_after : (most before low high depth : ℕ) (calls : List ℕ) (new old : ℕ) (was still : Bool) → Since most before low high depth calls
    → was ≡ kept_by most before low high → still ≡ kept_by most before (min low (depth + 1)) (max high (depth + 1))
    → take most (new ∷ calls) ++ if_kept still old ≡ take most (new ∷ (calls ++ if_kept was old))
push_after most before low high depth calls new old true true since w s =
    let was_kept : IsKept most before low high = kept_if most before low high w in
    let still_kept : IsKept most before (min low (depth + 1)) (max high (depth + 1)) = kept_if most before (min low (depth + 1))
    (max high (depth + 1)) s in
    let count : length calls + low ≡ depth = since.counted (omega arith) in
    let fit : length (new ∷ calls) ≤ most = omega arith in
    let all_fit : length (new ∷ (calls ++ old ∷ [])) ≤ most = omega (arith, length-append calls (old ∷ [])) in
    rw (take_all most (new ∷ calls) fit, take_all most (new ∷ (calls ++ old ∷ [])) all_fit)
push_after most before low high depth calls new old true false since w s =
    let was_kept : IsKept most before low high = kept_if most before low high w in
    let count : length calls + low ≡ depth = since.counted (omega arith) in
    let full : most ≤ length (new ∷ calls) =
    elim (not_kept_if most before (min low (depth + 1)) (max high (depth + 1)) s) [ inl h ↦ absurd (omega arith) | inr h ↦ omega arith ] in
    append-nil (take most (new ∷ calls)) ∙ sym (take-append-le most (new ∷ calls) (old ∷ []) full)
push_after most before low high depth calls new old false true since w s =
    let still_kept : IsKept most before (min low (depth + 1)) (max high (depth + 1)) = kept_if most before (min low (depth + 1))
    (max high (depth + 1)) s in
    elim (not_kept_if most before low high w) [ inl h ↦ absurd (omega arith) | inr h ↦ absurd (omega arith) ]
push_after most before low high depth calls new old false false since w s =
    append-nil (take most (new ∷ calls)) ∙ sym (ap (λ (l : List ℕ). take most (new ∷ l)) (append-nil calls))

-- A pop after it. Where no newer call is kept, the pop takes the older one away.
takes_only : (calls : List ℕ) (old : ℕ) → length calls ≡ 0 → drop 1 calls ++ [] ≡ drop 1 (calls ++ old ∷ [])
takes_only [] old e = refl
takes_only (call ∷ calls) old e = absurd (omega arith)

pop_after : (most before low high depth : ℕ) (calls : List ℕ) (old : ℕ) (was still : Bool) → Since most before low high depth calls
    → was ≡ kept_by most before low high → still ≡ kept_by most before (min low (depth - 1)) (max high (depth - 1))
    → drop 1 calls ++ if_kept still old ≡ drop 1 (calls ++ if_kept was old)
pop_after most before low high depth calls old true true since w s =
    let was_kept : IsKept most before low high = kept_if most before low high w in
    let still_kept : IsKept most before (min low (depth - 1)) (max high (depth - 1)) = kept_if most before (min low (depth - 1))
    (max high (depth - 1)) s in
    let count : length calls + low ≡ depth = since.counted (omega arith) in
    sym (drop-append-le 1 calls (old ∷ []) (omega arith))
pop_after most before low high depth calls old true false since w s =
    let was_kept : IsKept most before low high = kept_if most before low high w in
    let count : length calls + low ≡ depth = since.counted (omega arith) in
    takes_only calls old
    (elim (not_kept_if most before (min low (depth - 1)) (max high (depth - 1)) s) [ inl h ↦ omega arith | inr h ↦ absurd (omega arith) ])
pop_after most before low high depth calls old false true since w s =
    let still_kept : IsKept most before (min low (depth - 1)) (max high (depth - 1)) = kept_if most before (min low (depth - 1))
    (max high (depth - 1)) s in
    elim (not_kept_if most before low high w) [ inl h ↦ absurd (omega arith) | inr h ↦ absurd (omega arith) ]
pop_after most before low high depth calls old false false since w s =
    append-nil (drop 1 calls) ∙ sym (ap (λ (l : List ℕ). drop 1 l) (append-nil calls))

-- whether an older push is kept after one mark more
is_kept-more : (most before depth : ℕ) (marks : List Mark) (mark : Mark) → is_kept most before (depths_through depth (marks ++ mark ∷ []))
    ≡ kept_by most before (min (least depth marks) (depth_after (depth_through depth marks) mark))
    (max (greatest depth marks) (depth_after (depth_through depth marks) mark))
is_kept-more most before depth marks mark =
    rw (is_kept-through most before depth (marks ++ mark ∷ []), least-more depth marks mark, greatest-more depth marks mark)

-- The first push is kept, as long as any call may be.
first_push : (most before pc : ℕ) (kept : Bool) → kept ≡ kept_by most before (before + 1) (before + 1) → 0 < most
    → if_kept kept pc ≡ take most (pc ∷ [])
first_push most before pc true e some =
    let fits : length (pc ∷ []) ≤ most = omega arith in
    sym (take_all most (pc ∷ []) fits)
first_push most before pc false e some =
    elim (not_kept_if most before (before + 1) (before + 1) e) [ inl h ↦ absurd (omega arith) | inr h ↦ absurd (omega arith) ]

-- A push puts its address before the others, and the newest are left.
pub kept_through-push : (most depth : ℕ) (marks : List Mark) (pc : ℕ) → 0 < most
    → kept_through most depth (marks ++ Push pc ∷ []) ≡ take most (pc ∷ kept_through most depth marks)
kept_through-push most depth [] pc some =
    first_push most depth pc _ (is_kept-through most depth (depth + 1) []) some
kept_through-push most depth (Pop ∷ marks) pc some = kept_through-push most (depth - 1) marks pc some
kept_through-push most depth (Push old ∷ marks) pc some =
    rw (
      kept_through-push most (depth + 1) marks pc some,
      is_kept-more most depth (depth + 1) marks (Push pc),
      is_kept-through most depth
          (depth + 1) marks,
    )
    (push_after most depth (least (depth + 1) marks) (greatest (depth + 1) marks) (depth_through (depth + 1) marks)
    (kept_through most (depth + 1) marks) pc old _ _ (since_push most depth marks) refl refl)

-- A pop takes the newest away.
pub kept_through-pop : (most depth : ℕ) (marks : List Mark)
    → kept_through most depth (marks ++ Pop ∷ []) ≡ drop 1 (kept_through most depth marks)
kept_through-pop most depth [] = refl
kept_through-pop most depth (Pop ∷ marks) = kept_through-pop most (depth - 1) marks
kept_through-pop most depth (Push old ∷ marks) =
    rw (
      kept_through-pop most (depth + 1) marks,
      is_kept-more most depth (depth + 1) marks Pop,
      is_kept-through most depth
          (depth + 1) marks,
    )
    (pop_after most depth (least (depth + 1) marks) (greatest (depth + 1) marks) (depth_through (depth + 1) marks)
    (kept_through most (depth + 1) marks) old _ _ (since_push most depth marks) refl refl)
