-- A run stops at one number, wherever its moves are counted from.
use Rattle.stepping.proofs.Common.{Advances, After, Applies, AppliesAt, arith, both_ways, cases_lt, CountsAnew, Debugged, Ended, entered, Exception, Exit, false, inl, inr, MovesEnd, NoneBelow, Outcome, place, refl, StopIsUnique, Stopped, StopsAt, subst, suc, sym, Trap, true, zero, ℕ, ◌+◌, ◌-◌, ◌<◌, ◌∙◌, ◌≡◌, ◌≤◌, ◌⊎◌}
use Rattle.std.proofs.Common.{◌↔◌}
use Rattle.stepping.proofs.Advancing.{advanced, after_equal, after_keeps, answers_equal}

-- what applies at the next instruction, at another machine after as many moves
pub applies_here : (k : ℕ) (start before : Debugged) (outcome : Outcome) → After k start before → AppliesAt (suc k) outcome start
    → Applies outcome before
applies_here k start before outcome a x = subst (λ (d : Debugged). Applies outcome d) (after_equal k start x.0 before x.1.0 a) x.1.1

-- ---- one number and one reason

same_reason : (before : Debugged) (o p : Outcome) → Applies o before → Applies p before → place o ≡ place p → o ≡ p
same_reason before (Stopped (Exception c)) (Stopped (Exception d)) x y e =
    let same : Trap c ≡ Trap d = answers_equal before (Trap c) (Trap d) x y in cc
same_reason before (Ended c) (Ended d) x y e = let same : Exit c ≡ Exit d = answers_equal before (Exit c) (Exit d) x y in cc
same_reason before _ _ x y e = grind arith

reason_equal : (n : ℕ) (outcome another : Outcome) (start : Debugged) → AppliesAt n outcome start → AppliesAt n another start
    → place outcome ≡ place another → outcome ≡ another
reason_equal zero outcome another start x y e = grind arith
reason_equal (suc n) outcome another start x y e =
    same_reason x.0 outcome another x.1.1 (applies_here n start x.0 another x.1.0 y) e

pub stop_is_unique : StopIsUnique
stop_is_unique n other outcome another start a b =
    let below : (n < other → ⊥) = λ l. b.least n outcome l a.applies in
    let above : (other < n → ⊥) = λ l. a.least other another l b.applies in
    let same : n ≡ other = omega (arith, below, above) in
    let here : AppliesAt n another start = rw same b.applies in
    let there : AppliesAt other outcome start = rw same at a.applies in
    (same, reason_equal n outcome another start a.applies here (omega (arith, a.first another here, b.first outcome there)))

-- ---- where the moves end

apart : (before after : Debugged) (outcome : Outcome) → place outcome ≤ 2 → Applies outcome before → Advances before after → ⊥
apart before after (Stopped (Exception cause)) l x m = let never : false ≡ true = advanced before after (Trap cause) x m in cc
apart before after (Ended code) l x m = let never : false ≡ true = advanced before after (Exit code) x m in cc
apart before after _ l x m = omega (arith, l)

pub moves_end : MovesEnd
moves_end n zero outcome start after l x less a = absurd (omega (arith, less))
moves_end n (suc later) outcome start after l x less a = go (cases_lt n later) (λ m. moves_end n later outcome start a.0 l x m a.1.0) where
  go : (n < later) ⊎ (later ≤ n) → (n < later → ⊥) → ⊥
  go (inl lower) more = more lower
  go (inr here) more =
      let same : n ≡ later = omega (arith, less, here) in
      apart a.0 after outcome l (applies_here later start a.0 outcome a.1.0 (rw same at x)) a.1.1

-- ---- moves counted anew

-- moves from the middle, and all of them from the start
joined : (j k all : ℕ) (start middle after : Debugged) → all ≡ k + j → After k start middle → After j middle after ↔ After all start after
joined zero k all start middle after e h =
    let same : all ≡ k = omega (arith, e) in
    let ready = (after_keeps k start middle h).ready in
    let again : entered middle ≡ middle = rw ready refl in
    (λ a. rw (same, a ∙ again) h, λ a. after_equal k start after middle (rw same at a) h ∙ sym again)
joined (suc j) k zero start middle after e h = absurd (omega (arith, e))
joined (suc j) k (suc all) start middle after e h =
    let on = λ (d : Debugged). joined j k all start middle d (omega (arith, e)) h in
    (λ a. (a.0, ((on a.0).0 a.1.0, a.1.1)), λ a. (a.0, ((on a.0).1 a.1.0, a.1.1)))

module _ (k : ℕ) (start middle : Debugged) (h : After k start middle) where
  -- what applies at a number of the middle, and at that of the start
  applies : (j all : ℕ) (outcome : Outcome) → all ≡ k + suc j → AppliesAt (suc j) outcome middle ↔ AppliesAt all outcome start
  applies j zero outcome e = absurd (omega (arith, e))
  applies j (suc all) outcome e =
      let on = λ (d : Debugged). joined j k all start middle d (omega (arith, e)) h in
      (λ x. (x.0, ((on x.0).0 x.1.0, x.1.1)), λ x. (x.0, ((on x.0).1 x.1.0, x.1.1)))

  none_at_entry : (outcome : Outcome) → AppliesAt 0 outcome middle → ⊥
  none_at_entry outcome x = both_ways middle.check_due (after_keeps k start middle h).ready x.0

  join_stops : (n : ℕ) (outcome : Outcome) → NoneBelow (suc k) start → StopsAt n outcome middle → StopsAt (k + n) outcome start
  join_stops zero outcome none s = absurd (none_at_entry outcome s.applies)
  join_stops (suc j) outcome none s = record {
    applies = (applies j (k + suc j) outcome refl).0 s.applies;
    first = λ other x. s.first other ((applies j (k + suc j) other refl).1 x);
    least = λ lower other l x. by lower other l x (cases_lt lower (suc k));
  } where
    by : (lower : ℕ) (other : Outcome) → lower < k + suc j → AppliesAt lower other start → (lower < suc k) ⊎ (suc k ≤ lower) → ⊥
    by lower other l x (inl less) = none lower other less x
    by lower other l x (inr more) =
        s.least (suc (lower - k - 1)) other (omega (arith, more, l)) ((applies (lower - k - 1) lower other (omega (arith, more))).1 x)

  split_stops : (n : ℕ) (outcome : Outcome) → NoneBelow (suc k) start → StopsAt (k + n) outcome start → StopsAt n outcome middle
  split_stops zero outcome none s = absurd (none (k + 0) outcome (omega arith) s.applies)
  split_stops (suc j) outcome none s = record {
    applies = (applies j (k + suc j) outcome refl).1 s.applies;
    first = λ other x. s.first other ((applies j (k + suc j) other refl).0 x);
    least = least;
  } where
    least : NoneBelow (suc j) middle
    least zero other l x = none_at_entry other x
    least (suc lower) other l x = s.least (k + suc lower) other (omega (arith, l)) ((applies lower (k + suc lower) other refl).0 x)

pub counts_anew : CountsAnew
counts_anew k n outcome start middle h none =
    (join_stops k start middle h n outcome none, split_stops k start middle h n outcome none)
