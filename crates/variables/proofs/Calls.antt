-- Laws over any list of calls.
use Rattle.variables.proofs.Common.{[], ap, arith, at_next_stop, Bool, cond, Err, false, found_in, has, InOrder, is_same, Issued, issued_all, length, List, map, nat_lt, nat_tests, next_after, nothing_issued, number_from, number_in, Numbers, Ok, Past, refl, slice_get, Some, StandsFor, suc, sym, Target, true, unless_absent, with_all, with_targets, ℕ, ◌+◌, ◌-◌, ◌==◌, ◌||◌, ◌∙◌, ◌∷◌, ◌≡◌, ◌≤◌}
use Rattle.variables.specs.Laws.{Call, EndedAreStale, IssuedAreFound, NumbersRise, NumbersStay, after_call, after_calls, down_from, past_of}
use Rattle.variables.specs.Laws.Call.{EndStop, Issue}
use Rattle.variables.specs.declared.error.FindError.TheVariants.{Unknown, Stale}
use Rattle.variables.proofs.Standing.{all_stand, ended_stands, found_among-later, nothing_stands}
use Rattle.variables.proofs.Targets.{has-with_all, is_same-true, or-true, some_number, with_all-keeps}

-- ---- something that is kept represents each past

abbrev pub Kept : Past → Type 0
Kept past = (kept : Numbers) × StandsFor kept past

one_call : (call : Call) (past : Past) → Kept past → Kept (after_call call past)
one_call (Issue targets) past k = (with_targets k.0 targets, all_stand k.0 past targets k.1)
one_call EndStop past k = (at_next_stop k.0, ended_stands k.0 past k.1)

some_calls : (calls : List Call) (past : Past) → Kept past → Kept (after_calls calls past)
some_calls [] past k = k
some_calls (call ∷ calls) past k = some_calls calls (after_call call past) (one_call call past k)

pub kept_of : (calls : List Call) → Kept (past_of calls)
kept_of calls = some_calls calls nothing_issued (record { first = 1; targets = []; last = 0 }, nothing_stands 0)

-- ---- numbers rise

pub record Falls (issued : List Issued) : Type 0 where
  pub numbers : map (λ (i : Issued). i.number) issued ≡ down_from (length issued)
  pub next : next_after issued ≡ suc (length issued)

pub falls : (stop : ℕ) (issued : List Issued) → InOrder stop issued → Falls issued
falls stop [] o = record { numbers = refl; next = refl }
falls stop (i ∷ issued) o =
    let rest : Falls issued = falls i.stop issued o.1.1 in
    let number : i.number ≡ suc (length issued) = o.0 ∙ rest.next in
    record {
      numbers =
          ap (λ (n : ℕ). n ∷ map (λ (i : Issued). i.number) issued) number ∙ ap (λ (l : List ℕ). suc (length issued) ∷ l) rest.numbers;
      next = omega (arith, number);
    }

pub numbers_rise : NumbersRise
numbers_rise calls = (falls (past_of calls).stop (past_of calls).issued (kept_of calls).1.order).numbers

-- ---- what is issued is found

pub record IsAt (first : ℕ) (target : Target) (known : List Target) (n : ℕ) : Type 0 where
  pub from : first ≤ n
  pub place : slice_get known (n - first) ≡ Some target

at_place : (first : ℕ) (target : Target) (known : List Target) (n : ℕ) → number_from first target known ≡ Some n → IsAt first target known n
at_place first target [] n e = absurd (cc)
at_place first target (t ∷ known) n e = by (is_same t target) refl (at_place (first + 1) target known n) where
  by : (b : Bool) → is_same t target ≡ b → (number_from (first + 1) target known ≡ Some n → IsAt (first + 1) target known n)
      → IsAt first target (t ∷ known) n
  by true is at =
      let number : first ≡ n = let some : Some first ≡ Some n = sym
      (ap (λ (b : Bool). cond b (Some first) (number_from (first + 1) target known)) is) ∙ e in cc in
      let none : n - first ≡ 0 = omega (arith, number) in
      record {
        from = omega (arith, number);
        place = ap (slice_get (t ∷ known)) none
            ∙ ap (λ (t : Target). Some t) (is_same-true t target is);
      }
  by false is at =
      let rest : IsAt (first + 1) target known n = at
      (sym (ap (λ (b : Bool). cond b (Some first) (number_from (first + 1) target known)) is) ∙ e) in
      let later : n - first ≡ suc (n - (first + 1)) = omega (arith, rest.from) in
      record { from = omega (arith, rest.from); place = ap (slice_get (t ∷ known)) later ∙ rest.place }

not_zero : (first n : ℕ) → 1 ≤ first → first ≤ n → (n == 0) ≡ false
not_zero first n some h = grind (arith, nat_tests)

not_below : (first n : ℕ) → first ≤ n → nat_lt n first ≡ false
not_below first n h = grind (arith, nat_tests)

found_by_number : (kept : Numbers) (target : Target) (n : ℕ) → 1 ≤ kept.first → number_in kept target ≡ Some n → found_in kept n ≡ Ok target
found_by_number kept target n some e =
    let there : IsAt kept.first target kept.targets n = at_place kept.first target kept.targets n e in
    let not_0 : (n == 0) ≡ false = not_zero kept.first n some there.from in
    let not_before : nat_lt n kept.first ≡ false = not_below kept.first n there.from in
    ap (λ (b : Bool). cond b (Err Unknown)
    (cond (nat_lt n kept.first) (Err Stale) (unless_absent (slice_get kept.targets (n - kept.first))))) not_0
    ∙ ap (λ (b : Bool). cond b (Err Stale) (unless_absent (slice_get kept.targets (n - kept.first)))) not_before
    ∙ ap unless_absent there.place

pub issued_are_found : IssuedAreFound
issued_are_found calls targets target h =
    let past : Past = past_of calls in
    let before : Kept past = kept_of calls in
    let after : StandsFor (with_targets before.0 targets) (issued_all past targets) = all_stand before.0 past targets before.1 in
    let there : has target (with_all before.0.targets targets) ≡ true =
    has-with_all target before.0.targets targets
    ∙ ap (λ (b : Bool). has target before.0.targets || b) h
    ∙ or-true (has target before.0.targets) in
    let number : (n : ℕ) × (number_in (with_targets before.0 targets) target ≡ Some n) = some_number before.0.first target
    (with_all before.0.targets targets) there in (
      number.0,
      (
        sym (after.numbers target) ∙ number.1,
        sym (after.finds number.0)
            ∙ found_by_number (with_targets before.0 targets) target number.0 after.some number.1,
      ),
    )

pub numbers_stay : NumbersStay
numbers_stay calls targets target n e =
    let past : Past = past_of calls in
    let before : Kept past = kept_of calls in
    let after : StandsFor (with_targets before.0 targets) (issued_all past targets) = all_stand before.0 past targets before.1 in
    sym (after.numbers target) ∙ with_all-keeps before.0.first target before.0.targets targets n (before.1.numbers target ∙ e)

pub ended_are_stale : EndedAreStale
ended_are_stale calls number = found_among-later (past_of calls).stop number (past_of calls).issued (kept_of calls).1.order
