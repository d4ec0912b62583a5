-- A run back stops at the newest place where the test holds, and else at the oldest.
use Rattle.history_laws.proofs.Common.{[], ap, arith, below_more, Bool, Course, false, if_keeps, inl, inr, IsNewest, LeadTo, length, List, Makes, moves_equal, moves_from_oldest, MovesTo, oldest_of, Position, refl, RunsBackToTheNewest, start, subst, suc, sym, true, turned, zero, ℕ, ◌<◌, ◌∙◌, ◌∷◌, ◌≡◌, ◌≤◌, ◌⊎◌}

abbrev at_end : List Position → Position → Course
at_end past now = record { now = now; past = past }

-- as many moves lead to one place
one_place : (n : ℕ) (start x y : Position) → Makes n start x → Makes n start y → x ≡ y
one_place zero start x y a b = a ∙ sym b
one_place (suc n) start x y a b =
    moves_equal b.0 x y (subst (λ (m : Position). MovesTo m x) (one_place n start a.0 b.0 a.1.0 b.1.0) a.1.1) b.1.1

module _ (test : Position → Bool) where
  abbrev Newest : List Position → Position → Course → Type 0
  Newest past now stop = IsNewest test (at_end past now) stop

  -- it is so of the newest of them, or there is no other
  here : (p : Position) (past : List Position) (now : Position) → LeadTo past p → (test p ≡ true) ⊎ (length past ≡ 0)
      → Newest (p ∷ past) now (at_end past p)
  here p past now h met = record {
    makes = moves_from_oldest (at_end past p) h;
    below = omega arith;
    met = met;
    greatest = λ j q more less m. absurd (omega (arith, more, less));
  }

  -- it is not, and there are others
  later : (p : Position) (past : List Position) (now : Position) (stop : Course) → LeadTo past p → test p ≡ false → Newest past p stop
      → Newest (p ∷ past) now stop
  later p past now stop h none n = let fewer = n.below in record {
    makes = n.makes;
    below = omega (arith, fewer);
    met = n.met;
    greatest = λ j q more less.
        below_more (λ (k : ℕ). length stop.past < k → Makes k (oldest_of past p) q → test q ≡ false) (length past)
        (λ k below after. n.greatest k q after below)
        (λ _ m. ap test (one_place (length past) (oldest_of past p) q p m (moves_from_oldest (at_end past p) h)) ∙ none)
        j (omega (arith, less)) more;
  }

  newest : (past : List Position) (now : Position) → LeadTo past now → 1 ≤ length past → Newest past now (turned test past now)
  newest [] now h some = absurd (omega (arith, some))
  newest (p ∷ []) now h some =
      if_keeps (Newest (p ∷ []) now) (test p) _ _ (λ so. here p [] now h.1 (inl so)) (λ _. here p [] now h.1 (inr refl))
  newest (p ∷ b ∷ past) now h some =
      if_keeps (Newest (p ∷ b ∷ past) now) (test p) _ _ (λ so. here p (b ∷ past) now h.1 (inl so))
      (λ none. later p (b ∷ past) now _ h.1 none (newest (b ∷ past) p h.1 (omega arith)))

pub runs_back_to_the_newest : RunsBackToTheNewest
runs_back_to_the_newest test from h some = newest test from.past from.now h some
