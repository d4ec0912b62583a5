-- `enough` beats end each slice, in each world where what is done to the program is done, and telling a tick leaves what it concludes.
use Rattle.session.proofs.Common.{[], after_beat, ap, arith, Beat, beat_by, beat_of, beats, becomes, Bool, concluded, ending_of, enough, entered, false, FULL, goes, goes_unless, if_keeps, is_at_limit, is_runnable_by, ltb, makes_move, Mark, moved, moves_by, nat_tests, next_by, next_tick, None, not, Now, Option, Outcome, performed, Program, refl, sliced, SliceEnd, Slicing, Some, stays, suc, sym, telling, Tick, told, true, Went, World, zero, ℕ, ◌*◌, ◌+◌, ◌-◌, ◌<◌, ◌∙◌, ◌∷◌, ◌≡◌, ◌≤◌}
use Rattle.session.proofs.Advancing.{move_leaves}
use Rattle.session.proofs.ByMove.{by_move}

-- ---- what is left of a slice: the moves, what is owed, and the check

abbrev owed_rank : Option Tick → ℕ
owed_rank None = 0
owed_rank (Some tick) = 1

abbrev due_rank : Bool → ℕ
due_rank true = 2
due_rank false = 0

abbrev rank_of : Option Program → ℕ
rank_of None = 0
rank_of (Some p) = owed_rank p.owed + due_rank p.machine.check_due

abbrev rank : ℕ → ℕ → Option Program → ℕ
rank n m program = 2 * (n - m) + rank_of program

owed_few : (owed : Option Tick) → owed_rank owed ≤ 1
owed_few owed = grind arith

few : (program : Option Program) → rank_of program ≤ 3
few program = grind arith

-- the program that is debugged
abbrev pub program_in : {S : Type 0} → World S → S → Option Program
program_in w s = (w.see s).now.debuggee.program

pub record Follows {S : Type 0} (w : World S) : Type 0 where
  pub becomes : (now : Now) (q : Program) (s : S) → program_in w (w.perform (becomes now q) s) ≡ Some q
  pub tells : (s : S) (p : Program) (tick : Tick)
      → program_in w (performed w (telling (w.see s).now p tick) s) ≡ Some (concluded tick.outcome (told p))

module _ {S : Type 0} (w : World S) (h : Follows w) where
  -- ---- a beat that continues the slice lowers it

  abbrev Falls : ℕ → ℕ → S → Option Program → Beat → Type 0
  Falls n m k program b = b.ending ≡ None → rank n (m + b.moved) (program_in w (after_beat w b k)) < rank n m program

  went_on : (outcome : Outcome) → ending_of outcome ≡ None → outcome ≡ Went
  went_on outcome e = grind arith

  tells_fall : (n m : ℕ) (s : S) (p : Program) (tick : Tick) → p.owed ≡ Some tick
      → Falls n m s (Some p) (record { acts = telling (w.see s).now p tick; moved = 0; ending = ending_of tick.outcome })
  tells_fall n m s p tick owes on =
      let after = h.tells s p tick in
      let one : owed_rank p.owed ≡ 1 = ap owed_rank owes in
      rw (after, went_on tick.outcome on) (omega (arith, one))

  -- a beat after which the program is this
  becomes_fall : (n m moved : ℕ) (s : S) (p q : Program) → rank n (m + moved) (Some q) < rank n m (Some p)
      → Falls n m s (Some p) (record { acts = becomes (w.see s).now q ∷ []; moved = moved; ending = None })
  becomes_fall n m moved s p q less on = rw (h.becomes (w.see s).now q s) less

  checks_fall : (n m : ℕ) (k : S) (p : Program) → p.machine.check_due ≡ true
      → Falls n m k (Some p) (record { acts = becomes (w.see k).now (entered p) ∷ []; moved = 0; ending = None })
  checks_fall n m k p due =
      let two : due_rank p.machine.check_due ≡ 2 = ap due_rank due in
      let few = owed_few (entered p).owed in
      becomes_fall n m 0 k p (entered p) (omega (arith, two, few))

  makes_fall : (n m : ℕ) (k : S) (p : Program) → p.machine.check_due ≡ false → m < n → stays (next_tick p).outcome ≡ false
      → Falls n m k (Some p) (makes_move (w.see k).now p)
  makes_fall n m k p due lt e =
      let none : due_rank (moved p).machine.check_due ≡ 0 = ap due_rank ((move_leaves p due e).due ∙ due) in
      let few = owed_few (moved p).owed in
      becomes_fall n m 1 k p (moved p) (omega (arith, none, few, lt))

  moves_fall : (n m : ℕ) (k : S) (p : Program) (outcome : Outcome) → (next_tick p).outcome ≡ outcome → p.machine.check_due ≡ false → m < n
      → Falls n m k (Some p) (moves_by (w.see k).now p outcome)
  moves_fall n m k p outcome e due lt =
      by_move (λ o b. (next_tick p).outcome ≡ o → Falls n m k (Some p) b) (w.see k).now p outcome
      (λ o goes e. makes_fall n m k p due lt (ap stays e ∙ goes)) (λ _ _ x. absurd (cc)) (λ _ _ x. absurd (cc)) e

  goes_fall : (n m : ℕ) (k : S) (p : Program) → Falls n m k (Some p) (goes (w.see k).now p (ltb m n))
  goes_fall n m k p =
      if_keeps (Falls n m k (Some p)) p.machine.check_due _ _ (λ due. checks_fall n m k p due)
      (λ due. if_keeps (Falls n m k (Some p)) (not (ltb m n)) _ _ (λ _ on. absurd (cc))
      (λ more. if_keeps (Falls n m k (Some p)) (is_at_limit (w.see k).now p) _ _ (λ _ on. absurd (cc))
      (λ _. moves_fall n m k p (next_tick p).outcome refl due (let lt : m < n = grind (arith, nat_tests) in lt))))

  unless_falls : (n m : ℕ) (k : S) (p : Program) (mark : Option Mark) → Falls n m k (Some p) (goes_unless mark (w.see k).now p (ltb m n))
  unless_falls n m k p (Some mark) on = absurd (cc)
  unless_falls n m k p None on = goes_fall n m k p on

  owed_falls : (n m : ℕ) (k : S) (p : Program) (owed : Option Tick) → p.owed ≡ owed
      → Falls n m k (Some p) (beat_by owed (w.see k) p (ltb m n))
  owed_falls n m k p (Some tick) e = tells_fall n m k p tick e
  owed_falls n m k p None e =
      if_keeps (Falls n m k (Some p)) (not (is_runnable_by (w.see k).now.link p.run)) _ _ (λ _ on. absurd (cc))
      (λ _. if_keeps (Falls n m k (Some p)) (ltb FULL (w.see k).waits) _ _ (λ _ on. absurd (cc)) (λ _. unless_falls n m k p p.mark))

  beat_falls : (n m : ℕ) (k : S) (program : Option Program) → Falls n m k program (beat_of program (w.see k) (ltb m n))
  beat_falls n m k None on = absurd (cc)
  beat_falls n m k (Some p) on = owed_falls n m k p p.owed refl on

  -- ---- so each slice has ended after enough

  abbrev Lowered : ℕ → ℕ → S → Slicing S → Type 0
  Lowered n i s d = d.ending ≡ None → rank n d.moved (program_in w d.state) + i ≤ 2 * n + 3

  next_lowers : (n i : ℕ) (s : S) (d : Slicing S) (e : Option SliceEnd) → d.ending ≡ e → Lowered n i s d
      → Lowered n (suc i) s (next_by w n e d)
  next_lowers n i s d (Some e) is h on = absurd (cc)
  next_lowers n i s d None is h on =
      let less = beat_falls n d.moved d.state (program_in w d.state) on in
      let before = h is in
      omega (arith, less, before)

  lowered : (n i : ℕ) (s : S) → Lowered n i s (beats w n i s)
  lowered n zero s on = let a = few (program_in w s) in omega (arith, a)
  lowered n (suc i) s on = next_lowers n i s (beats w n i s) (beats w n i s).ending refl (lowered n i s) on

  some_of : (e : Option SliceEnd) → (e ≡ None → ⊥) → (x : SliceEnd) × (e ≡ Some x)
  some_of None h = absurd (h refl)
  some_of (Some x) h = (x, refl)

  pub each_ends : (n : ℕ) (s : S) → (e : SliceEnd) × ((sliced w n s).ending ≡ Some e)
  each_ends n s = some_of (sliced w n s).ending (λ on. let h = lowered n (enough n) s on in omega (arith, h))

  -- ---- and stays so

  pub stays_ended : (n i more : ℕ) (s : S) (e : SliceEnd) → (beats w n i s).ending ≡ Some e → beats w n (i + more) s ≡ beats w n i s
  stays_ended n i zero s e h = let none : i + zero ≡ i = omega arith in rw none
  stays_ended n i (suc more) s e h =
      let one : i + suc more ≡ suc (i + more) = omega arith in
      rw (one, stays_ended n i more s e h, h)

  pub is_sliced : (n i : ℕ) (s : S) (e : SliceEnd) → (beats w n i s).ending ≡ Some e → beats w n i s ≡ sliced w n s
  is_sliced n i s e h =
      let there = each_ends n s in
      let both : i + enough n ≡ enough n + i = omega arith in
      sym (stays_ended n i (enough n) s e h) ∙ ap (λ (x : ℕ). beats w n x s) both ∙ stays_ended n (enough n) i s there.0 there.1

  pub not_after : (n i : ℕ) (s : S) → enough n ≤ i → (beats w n i s).ending ≡ None → ⊥
  not_after n i s le on =
      let there = each_ends n s in
      let sum : i ≡ enough n + (i - enough n) = omega (arith, le) in
      let same = ap (λ (x : ℕ). beats w n x s) sum ∙ stays_ended n (enough n) (i - enough n) s there.0 there.1 in
      cc (same, there.1, on)
