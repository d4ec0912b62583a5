-- Of the depths along marks only the last, the least and the greatest matter.
use Rattle.course.proofs.Common.{[], ap, arith, Bool, depth_after, depth_through, depths_through, false, List, Mark, max, min, nat_le, nat_lt, nat_tests, refl, true, ℕ, ◌&&◌, ◌++◌, ◌∙◌, ◌∷◌, ◌≡◌, ◌≤◌}
use Rattle.std.specs.List.{list_all}

-- the least and the greatest of the depths from now on
abbrev pub least : ℕ → List Mark → ℕ
least depth [] = depth
least depth (mark ∷ marks) = min depth (least (depth_after depth mark) marks)

abbrev pub greatest : ℕ → List Mark → ℕ
greatest depth [] = depth
greatest depth (mark ∷ marks) = max depth (greatest (depth_after depth mark) marks)

below_both : (a b c : ℕ) → (nat_lt a b && nat_lt a c) ≡ nat_lt a (min b c)
below_both a b c = grind (arith, nat_tests)

above_both : (a b c : ℕ) → (nat_le b a && nat_le c a) ≡ nat_le (max b c) a
above_both a b c = grind (arith, nat_tests)

and_true : (b : Bool) → (b && true) ≡ b
and_true true = refl
and_true false = refl

-- all depths are above one where the least is, and at most one where the greatest is
pub all_above : (before depth : ℕ) (marks : List Mark)
    → list_all (λ d. nat_lt before d) (depths_through depth marks) ≡ nat_lt before (least depth marks)
all_above before depth [] = and_true (nat_lt before depth)
all_above before depth (mark ∷ marks) =
    ap (λ (t : Bool). nat_lt before depth && t) (all_above before (depth_after depth mark) marks)
    ∙ below_both before depth (least (depth_after depth mark) marks)

pub all_within : (most depth : ℕ) (marks : List Mark)
    → list_all (λ d. nat_le d most) (depths_through depth marks) ≡ nat_le (greatest depth marks) most
all_within most depth [] = and_true (nat_le depth most)
all_within most depth (mark ∷ marks) =
    ap (λ (t : Bool). nat_le depth most && t) (all_within most (depth_after depth mark) marks)
    ∙ above_both most depth (greatest (depth_after depth mark) marks)

-- the depth of now, and the last one, lie between them
pub least-start : (depth : ℕ) (marks : List Mark) → least depth marks ≤ depth
least-start depth [] = omega arith
least-start depth (mark ∷ marks) = omega arith

pub greatest-start : (depth : ℕ) (marks : List Mark) → depth ≤ greatest depth marks
greatest-start depth [] = omega arith
greatest-start depth (mark ∷ marks) = omega arith

pub least-end : (depth : ℕ) (marks : List Mark) → least depth marks ≤ depth_through depth marks
least-end depth [] = omega arith
least-end depth (mark ∷ marks) = omega (arith, least-end (depth_after depth mark) marks)

pub greatest-end : (depth : ℕ) (marks : List Mark) → depth_through depth marks ≤ greatest depth marks
greatest-end depth [] = omega arith
greatest-end depth (mark ∷ marks) = omega (arith, greatest-end (depth_after depth mark) marks)

-- one mark more
pub depth_through-more : (depth : ℕ) (marks : List Mark) (mark : Mark)
    → depth_through depth (marks ++ mark ∷ []) ≡ depth_after (depth_through depth marks) mark
depth_through-more depth [] mark = refl
depth_through-more depth (m ∷ marks) mark = depth_through-more (depth_after depth m) marks mark

pub least-more : (depth : ℕ) (marks : List Mark) (mark : Mark)
    → least depth (marks ++ mark ∷ []) ≡ min (least depth marks) (depth_after (depth_through depth marks) mark)
least-more depth [] mark = refl
least-more depth (m ∷ marks) mark = omega (arith, least-more (depth_after depth m) marks mark)

pub greatest-more : (depth : ℕ) (marks : List Mark) (mark : Mark)
    → greatest depth (marks ++ mark ∷ []) ≡ max (greatest depth marks) (depth_after (depth_through depth marks) mark)
greatest-more depth [] mark = refl
greatest-more depth (m ∷ marks) mark = omega (arith, greatest-more (depth_after depth m) marks mark)
