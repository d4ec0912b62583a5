-- A run back stops at the newest machine of the past at which a breakpoint stands.
use Rattle.stepping.proofs.Common.{[], ap, arith, Back, back_outcome, back_tick, Debugged, drop, false, Function, Goal, GoOn, Hit, Instruction, IsTick, length, List, looked_at, Ok, Outcome, outcome_or, place, Position, position_of, Reason, refl, ReverseGo, slice_get, Some, Source, standing_in, Start, Stopped, subst, subst₂, suc, sym, Tick, true, turns_back, undone, undone_by, unless_start, Went, zero, ℕ, ◌+◌, ◌<◌, ◌∙◌, ◌∷◌, ◌≡◌, ◌≤◌}
use Rattle.std.proofs.lemmas.List.{length-drop}
use Rattle.stepping.specs.StoppingBack.{AppliesBack, AppliesThere, BackTicksSayWhere, BackTicksTurn, LeavesBack, NoneBackBelow, SaysBack, TurnsTo}
use Rattle.stepping.specs.declared.tick.Reason.TheVariants.{Goal as GoalMet}
use Rattle.stepping.proofs.Cases.{back_of, by_hit, no_went, none_more, one_tick}

-- ---- by the past

turns : (d : Debugged) (past : List Position) → 1 ≤ length past
    → TurnsTo (back_outcome ReverseGo (undone_by past d)) (record d { past = past }) (looked_at ReverseGo (undone_by past d))
turns d [] some = absurd (omega (arith, some))
turns d (b ∷ []) some = grind arith
turns d (b ∷ c ∷ past) some = grind arith

pub runs_back_turn : BackTicksTurn
runs_back_turn before after tick is due some t =
    let x = back_of before after (Ok tick) due (ap turns_back is) t in
    rw (one_tick tick _ x.0, x.1) (subst (λ (g : Goal). TurnsTo (back_outcome g (undone before)) before (looked_at g (undone before)))
    (sym is) (turns before before.past some))

-- ---- by the number of moves undone

-- the place in the past
record Nth (n : ℕ) (past : List Position) : Type 0 where
  b : Position
  at : slice_get past n ≡ Some b
  is : drop n past ≡ b ∷ drop (suc n) past

nth : (n : ℕ) (past : List Position) → n < length past → Nth n past
nth n [] h = absurd (omega (arith, h))
nth zero (b ∷ past) h = record { b = b; at = refl; is = refl }
nth (suc n) (b ∷ past) h = let f = nth n past (omega (arith, h)) in record { b = f.b; at = f.at; is = f.is }

-- a step back is one move
at_once : (n : ℕ) (start : Debugged) → start.goal ≡ Back → n < length start.past → NoneBackBelow (suc n) start → suc n ≡ 1
at_once zero start is some none = refl
at_once (suc n) start is some none =
    let first = nth 0 start.past (omega (arith, some)) in
    absurd (none 1 (Stopped GoalMet) (omega arith) (first.b, (first.at, rw is refl)))

-- what is said once these moves and one more are undone, and whether the run may continue
abbrev Reverse : ℕ → Debugged → Outcome → Type 0
Reverse n start o = SaysBack (suc n) o start × (o ≡ Went → suc n < length start.past)

module _ (n : ℕ) (start : Debugged) (p : Nth n start.past) (none : NoneBackBelow (suc n) start) where
  abbrev First : Goal → Outcome → Type 0
  First g o = (other : Outcome) → AppliesThere g other (suc n) p.b start → place o ≤ place other

  -- the machine is there
  there : (g : Goal) → start.goal ≡ g → (o : Outcome) → AppliesBack (suc n) o start → AppliesThere g o (suc n) p.b start
  there g is o h =
      let both : Some h.0 ≡ Some p.b = sym h.1.0 ∙ p.at in
      let same : h.0 ≡ p.b = cc in
      subst₂ (λ (x : Goal) (b : Position). AppliesThere x o (suc n) b start) is same h.1.1

  stops : (g : Goal) → start.goal ≡ g → (r : Reason) → AppliesThere g (Stopped r) (suc n) p.b start → First g (Stopped r)
      → Reverse n start (Stopped r)
  stops g is r h first =
      let here = subst (λ (x : Goal). AppliesThere x (Stopped r) (suc n) p.b start) (sym is) h in
      (record { applies = (p.b, (p.at, here)); first = λ o a. first o (there g is o a); least = none }, λ e. absurd (cc))

  only_goal : First Back (Stopped GoalMet)
  only_goal o h = grind arith

  abbrev hit : Hit
  hit = standing_in p.b.hart.pc p.b.hart p.b.memory start.lists

  first : (rest : List Position) → length rest + suc n ≡ length start.past → First ReverseGo (outcome_or hit (unless_start rest))
  first rest l o h = grind arith

  left : start.goal ≡ ReverseGo → (rest : List Position) → length rest + suc n ≡ length start.past → First ReverseGo (unless_start rest)
      → Reverse n start (unless_start rest)
  left is [] l f = stops ReverseGo is Start (omega (arith, l)) f
  left is (c ∷ rest) l f =
      let here = λ (o : Outcome) (a : AppliesBack (suc n) o start). there ReverseGo is o a in
      let none_here = λ (o : Outcome) (h : AppliesThere ReverseGo o (suc n) p.b start). no_went (λ o. AppliesThere ReverseGo o (suc n) p.b start) (λ never. never) o h (f o h) in
      (none_more (λ k o. AppliesBack k o start) (suc n) none (λ o a. none_here o (here o a)), λ e. omega (arith, l))

  reverse : start.goal ≡ ReverseGo → (rest : List Position) → length rest + suc n ≡ length start.past
      → Reverse n start (outcome_or hit (unless_start rest))
  reverse is rest l = by_hit (λ o. First ReverseGo o → Reverse n start o) hit (unless_start rest) (stops ReverseGo is Source)
      (stops ReverseGo is Instruction) (stops ReverseGo is Function) (left is rest l) (first rest l)

-- ---- a tick of a run back

-- one that has gone back: its breakpoints and its goal are those at the start
abbrev within : Debugged → List Position → Debugged → Debugged
within start past d =
    let lists = record start.lists { ids = d.lists.ids; logs = d.lists.logs } in
    record start { hart = d.hart; memory = d.memory; calls = d.calls; retired = d.retired; past = past; lists = lists }

looked_back : (g : Goal) (past rest : List Position) (b : Position) (d : Debugged) → past ≡ b ∷ rest
    → let left : Debugged = looked_at g (undone_by past d) in (left ≡ within d rest left) × (position_of left ≡ b)
looked_back g past rest b d e = grind arith

-- what holds after `n` moves were undone, of a run back that continues
record Goes (n : ℕ) (start before : Debugged) : Type 0 where
  is : before ≡ within start (drop n start.past) before
  some : n < length start.past
  none : NoneBackBelow (suc n) start

comes_to : (n : ℕ) (start before : Debugged) (g : Goal) (past : List Position) (p : Nth n start.past) → start.goal ≡ g
    → turns_back g ≡ true → Goes n start before → past ≡ p.b ∷ drop (suc n) start.past
    → Reverse n start (back_outcome g (undone_by past before))
comes_to n start before Back past p is turns g e =
    stops n start p g.none Back is GoalMet (at_once n start is g.some g.none) (only_goal n start p g.none)
comes_to n start before ReverseGo past p is turns g e =
    let rest = drop (suc n) start.past in
    let long : length rest + suc n ≡ length start.past = omega (arith, length-drop (suc n) start.past, g.some) in
    let lists = ap (λ (d : Debugged). standing_in p.b.hart.pc p.b.hart p.b.memory d.lists) (sym g.is) in
    rw e (subst (λ (h : Hit). Reverse n start (outcome_or h (unless_start rest))) lists (reverse n start p g.none is rest long))
comes_to n start before _ past p is turns g e = absurd (cc)

step : (n : ℕ) (start before after : Debugged) (tick : Tick) → turns_back start.goal ≡ true → start.check_due ≡ false
    → Goes n start before → IsTick before (Ok tick) after
    → (SaysBack (suc n) tick.outcome start × LeavesBack n start after) × (tick.outcome ≡ Went → Goes (suc n) start after)
step n start before after tick turns due g t =
    let goal = ap (λ (d : Debugged). d.goal) g.is in
    let back = ap turns_back goal ∙ turns in
    let x = back_of before after (Ok tick) (ap (λ (d : Debugged). d.check_due) g.is ∙ due) back t in
    let p = nth n start.past g.some in
    let rest = drop (suc n) start.past in
    let past = ap (λ (d : Debugged). d.past) g.is ∙ p.is in
    let there : (after ≡ within before rest after) × (position_of after ≡ p.b) =
    rw x.1 (looked_back before.goal before.past rest p.b before past) in
    let r : Reverse n start tick.outcome =
    rw (one_tick tick (back_tick before) x.0) (comes_to n start before before.goal before.past p (sym goal) back g past) in (
      (r.0, record { now = p.at ∙ ap (λ (b : Position). Some b) (sym there.1); past = ap (λ (d : Debugged). d.past) there.0 }),
      λ went. record { is = there.0 ∙ ap (λ (d : Debugged). within d rest after) g.is; some = r.1 went; none = rw went at r.0 },
    )

-- ---- many

goes_on : (ticks : ℕ) (start before : Debugged) → turns_back start.goal ≡ true → start.check_due ≡ false → 1 ≤ length start.past
    → GoOn ticks start before → Goes ticks start before
goes_on zero start before turns due some e =
    let none = none_more (λ k o. AppliesBack k o start) 0 (λ lower o lt h. absurd (omega (arith, lt))) (λ o h. h) in
    rw e (record { is = refl; some = some; none = none })
goes_on (suc ticks) start after turns due some h =
    (step ticks start h.0 after (record { printed = h.2.1.0; outcome = Went }) turns due (goes_on ticks start h.0 turns due some h.2.0)
    (rw h.2.1.1 at h.2.2)).1 refl

pub back_ticks_say_where : BackTicksSayWhere
back_ticks_say_where ticks start before after tick turns due some go t =
    (step ticks start before after tick turns due (goes_on ticks start before turns due some go) t).0
