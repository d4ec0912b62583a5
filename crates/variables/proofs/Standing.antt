-- What is kept represents the past.
use Rattle.variables.proofs.Common.{[], ap, arith, at_next_stop, Bool, cond, ended, Err, false, found, found_among, found_in, has, InOrder, is_same, Issued, issued_all, issued_one, Issues, length, length-append, List, map, nat_lt, nat_tests, next_number, next_of, None, nothing_issued, number_among, number_from, number_in, number_of, Numbers, numbers_by, Ok, Option, Past, refl, Result, slice_get, Some, StandsFor, subst, suc, sym, Target, true, unless_absent, unless_issued, with_all, with_one, with_targets, zero, ℕ, ◌&&◌, ◌++◌, ◌+◌, ◌-◌, ◌<◌, ◌==◌, ◌∙◌, ◌∷◌, ◌≡◌, ◌≤◌}
use Rattle.std.specs.declared.alloc.Global.{Global}
use Rattle.std.specs.declared.vec.Vec.{Vec}
use Rattle.variables.specs.Laws.{stale}
use Rattle.variables.specs.declared.error.FindError.{FindError}
use Rattle.variables.specs.declared.error.FindError.TheVariants.{Unknown, Stale}
use Rattle.variables.specs.declared.error.IssueError.{IssueError}
use Rattle.variables.specs.declared.error.IssueError.TheVariants.{Exhausted, NoMemory}
use Rattle.variables.proofs.Targets.{first_of_two, is_same-true, no_number, no_second, number_from-append, some_number, with_one-new, with_one-old}

abbrev pub Found : Type 0
Found = Result Target FindError

-- ---- when a stop ends

pub InOrder-later : (s t : ℕ) (issued : List Issued) → s ≤ t → InOrder s issued → InOrder t issued
InOrder-later s t [] h o = tt
InOrder-later s t (i ∷ issued) h o = (o.0, (omega (arith, o.1.0), o.1.1))

not_later : (s t : ℕ) → s ≤ t → (s == (t + 1)) ≡ false
not_later s t h = grind (arith, nat_tests)

stale_there : (b : Bool) (target : Target) → stale (cond b (Ok target) (Err Stale)) ≡ Err Stale
stale_there true target = refl
stale_there false target = refl

here : (b : Bool) (s t : ℕ) (target : Target) (x y : Found) → s ≤ t → y ≡ stale x
    → cond b (cond (s == (t + 1)) (Ok target) (Err Stale)) y ≡ stale (cond b (cond (s == t) (Ok target) (Err Stale)) x)
here true s t target x y h e = ap (λ (b : Bool). cond b (Ok target) (Err Stale)) (not_later s t h) ∙ sym (stale_there (s == t) target)
here false s t target x y h e = e

pub found_among-later : (stop number : ℕ) (issued : List Issued) → InOrder stop issued
    → found_among (stop + 1) number issued ≡ stale (found_among stop number issued)
found_among-later stop number [] o = refl
found_among-later stop number (i ∷ issued) o =
    here (i.number == number) i.stop stop i.target (found_among stop number issued) (found_among (stop + 1) number issued) o.1.0
    (found_among-later stop number issued (InOrder-later i.stop stop issued o.1.0 o.1.1))

no_longer : (b : Bool) (s t : ℕ) (n : ℕ) (x : Option ℕ) → s ≤ t → x ≡ None → cond ((s == (t + 1)) && b) (Some n) x ≡ None
no_longer b s t n x h e = ap (λ (c : Bool). cond (c && b) (Some n) x) (not_later s t h) ∙ e

pub number_among-later : (stop : ℕ) (target : Target) (issued : List Issued) → InOrder stop issued
    → number_among (stop + 1) target issued ≡ None
number_among-later stop target [] o = refl
number_among-later stop target (i ∷ issued) o =
    no_longer (is_same i.target target) i.stop stop i.number (number_among (stop + 1) target issued) o.1.0
    (number_among-later stop target issued (InOrder-later i.stop stop issued o.1.0 o.1.1))

none_below : (i : ℕ) → nat_lt i 0 ≡ false
none_below i = grind (arith, nat_tests)

zero_below : (n : ℕ) → nat_lt 0 (suc n) ≡ true
zero_below n = grind (arith, nat_tests)

suc_below : (i n : ℕ) → nat_lt (suc i) (suc n) ≡ nat_lt i n
suc_below i n = grind (arith, nat_tests)

past_end : (targets : List Target) (i : ℕ)
    → stale (unless_absent (slice_get targets i)) ≡ cond (nat_lt i (length targets)) (Err Stale) (Err Unknown)
past_end [] i = sym (ap (λ (b : Bool). cond b (Err Stale) (Err Unknown)) (none_below i))
past_end (t ∷ targets) zero = sym (ap (λ (b : Bool). cond b (Err Stale) (Err Unknown)) (zero_below (length targets)))
past_end (t ∷ targets) (suc i) =
    past_end targets i ∙ sym (ap (λ (b : Bool). cond b (Err Stale) (Err Unknown)) (suc_below i (length targets)))

by_place : (first number count : ℕ) (x : Found) → stale x ≡ cond (nat_lt (number - first) count) (Err Stale) (Err Unknown)
    → cond (number == 0) (Err Unknown) (cond (nat_lt number (first + count)) (Err Stale) (Err Unknown)) ≡ stale (cond (number == 0) (Err Unknown) (cond (nat_lt number first) (Err Stale) x))
by_place first number count x e = go (number == 0) (nat_lt number first) refl where
  below : nat_lt number first ≡ true → nat_lt number (first + count) ≡ true
  below h = grind (arith, nat_tests)

  above : nat_lt number first ≡ false → nat_lt number (first + count) ≡ nat_lt (number - first) count
  above h = grind (arith, nat_tests)

  go : (none before : Bool) → nat_lt number first ≡ before
      → cond none (Err Unknown) (cond (nat_lt number (first + count)) (Err Stale) (Err Unknown)) ≡ stale (cond none (Err Unknown) (cond before (Err Stale) x))
  go true true h = refl
  go true false h = refl
  go false true h = ap (λ (b : Bool). cond b (Err Stale) (Err Unknown)) (below h)
  go false false h = ap (λ (b : Bool). cond b (Err Stale) (Err Unknown)) (above h) ∙ sym e

pub found_in-later : (kept : Numbers) (number : ℕ) → found_in (at_next_stop kept) number ≡ stale (found_in kept number)
found_in-later kept number =
    by_place kept.first number (length kept.targets) (unless_absent (slice_get kept.targets (number - kept.first)))
    (past_end kept.targets (number - kept.first))

pub ended_stands : (kept : Numbers) (past : Past) → StandsFor kept past → StandsFor (at_next_stop kept) (ended past)
ended_stands kept past s = record {
  next = omega (arith, s.next);
  some = omega (arith, s.some);
  finds = λ number. found_in-later kept number ∙ ap stale (s.finds number) ∙ sym (found_among-later past.stop number past.issued s.order);
  numbers = λ target. sym (number_among-later past.stop target past.issued s.order);
  order = InOrder-later past.stop (past.stop + 1) past.issued (omega arith) s.order;
}

-- the same of a value that is equal to it
pub ended_by : (kept : Numbers) (first : ℕ) (targets : List Target) (last : ℕ) → first ≡ next_of kept → targets ≡ [] → last ≡ kept.last
    → (past : Past) → StandsFor kept past → StandsFor (record { first = first; targets = targets; last = last }) (ended past)
ended_by kept first targets last f t l past s =
    let is : record { first = first; targets = targets; last = last } ≡ at_next_stop kept = cc in
    subst (λ (k : Numbers). StandsFor k (ended past)) (sym is) (ended_stands kept past s)

-- ---- at first

abbrev none_found : Found
none_found = Err Unknown

pub nothing_stands : (last : ℕ) → StandsFor (record { first = 1; targets = []; last = last }) nothing_issued
nothing_stands last = record {
  next = refl;
  some = omega arith;
  finds = λ number. none number (number == 0) (nat_lt number 1) refl refl;
  numbers = λ target. refl;
  order = tt;
} where
  none : (number : ℕ) (zero before : Bool) → (number == 0) ≡ zero → nat_lt number 1 ≡ before
      → cond zero (none_found) (cond before (Err Stale) (Err Unknown)) ≡ none_found
  none number true before e h = refl
  none number false false e h = refl
  none number false true e h = absurd (grind (arith, nat_tests))

-- ---- when a number is issued

same_number : (k : ℕ) → (k == k) ≡ true
same_number k = grind (arith, nat_tests)

-- the place after the targets is the new target's
next_place : (m i : ℕ) → (suc m == suc i) ≡ (m == i)
next_place m i = grind (arith, nat_tests)

no_place : (m : ℕ) → (suc m == 0) ≡ false
no_place m = grind (arith, nat_tests)

not_first : (i : ℕ) → (0 == suc i) ≡ false
not_first i = grind (arith, nat_tests)

pub slice_get-append : (known : List Target) (target : Target) (i : ℕ)
    → slice_get (known ++ target ∷ []) i ≡ cond (length known == i) (Some target) (slice_get known i)
slice_get-append [] target zero = refl
slice_get-append [] target (suc i) = sym (ap (λ (b : Bool). cond b (Some target) None) (not_first i))
slice_get-append (t ∷ known) target zero = sym (ap (λ (b : Bool). cond b (Some target) (Some t)) (no_place (length known)))
slice_get-append (t ∷ known) target (suc i) =
    slice_get-append known target i
    ∙ sym (ap (λ (b : Bool). cond b (Some target) (slice_get known i)) (next_place (length known) i))

new_place : (first number count : ℕ) (target : Target) (x : Option Target) → 1 ≤ first
    → cond (number == 0) (Err Unknown) (cond (nat_lt number first) (Err Stale) (unless_absent (cond (count == (number - first)) (Some target) x)))
    ≡ cond ((first + count) == number) (Ok target)
    (cond (number == 0) (Err Unknown) (cond (nat_lt number first) (Err Stale) (unless_absent x)))
new_place first number count target x some = go (number == 0) (nat_lt number first) refl refl where
  not_0 : (number == 0) ≡ true → ((first + count) == number) ≡ false
  not_0 h = grind (arith, nat_tests)

  not_below : nat_lt number first ≡ true → ((first + count) == number) ≡ false
  not_below h = grind (arith, nat_tests)

  from_first : nat_lt number first ≡ false → (count == (number - first)) ≡ ((first + count) == number)
  from_first h = grind (arith, nat_tests)

  there : (b : Bool) → unless_absent (cond b (Some target) x) ≡ cond b (Ok target) (unless_absent x)
  there true = refl
  there false = refl

  go : (none before : Bool) → (number == 0) ≡ none → nat_lt number first ≡ before
      → cond none (Err Unknown) (cond before (Err Stale) (unless_absent (cond (count == (number - first)) (Some target) x)))
      ≡ cond ((first + count) == number) (Ok target) (cond none (Err Unknown) (cond before (Err Stale) (unless_absent x)))
  go true before e h = sym (ap (λ (b : Bool). cond b (Ok target) (Err Unknown)) (not_0 e))
  go false true e h = sym (ap (λ (b : Bool). cond b (Ok target) (Err Stale)) (not_below h))
  go false false e h =
      there (count == (number - first)) ∙ ap (λ (b : Bool). cond b (Ok target) (unless_absent x)) (from_first h)

pub found_in-append : (kept : Numbers) (target : Target) (number : ℕ) → 1 ≤ kept.first
    → found_in (record kept { targets = kept.targets ++ target ∷ [] }) number ≡ cond (next_of kept == number) (Ok target) (found_in kept number)
found_in-append kept target number some =
    ap (λ (x : Option Target). cond (number == 0) (Err Unknown) (cond (nat_lt number kept.first) (Err Stale) (unless_absent x)))
    (slice_get-append kept.targets target (number - kept.first))
    ∙ new_place kept.first number (length kept.targets) target (slice_get kept.targets (number - kept.first)) some

-- a target that has no number gets the next
pub new_stands : (kept : Numbers) (past : Past) (target : Target) → number_in kept target ≡ None → StandsFor kept past
    → StandsFor (record kept { targets = kept.targets ++ target ∷ [] }) (record past { issued = record { number = next_number past; target = target; stop = past.stop } ∷ past.issued })
new_stands kept past target none s = record {
  next =
      let n : length (kept.targets ++ target ∷ []) ≡ length kept.targets + 1 = length-append kept.targets (target ∷ []) in
      omega (arith, n, s.next);
  some = s.some;
  finds = λ number.
      found_in-append kept target number s.some
      ∙ ap (λ (x : Found). cond (next_of kept == number) (Ok target) x) (s.finds number)
      ∙ ap (λ (n : ℕ). cond (n == number) (Ok target) (found past number)) s.next
      ∙ sym (ap (λ (b : Bool). cond (next_number past == number) (cond b (Ok target) (Err Stale)) (found past number))
      (same_number past.stop));
  numbers = λ other. number_from-append kept.first other target kept.targets ∙ by other (is_same target other) refl;
  order = (refl, (omega arith, s.order));
} where
  by : (other : Target) (b : Bool) → is_same target other ≡ b
      → first_of_two (number_in kept other) (cond b (Some (next_of kept)) None)
      ≡ cond ((past.stop == past.stop) && b) (Some (next_number past)) (number_of past other)
  by other true is =
      ap (λ (x : Option ℕ). first_of_two x (Some (next_of kept)))
      (subst (λ (t : Target). number_in kept t ≡ None) (is_same-true target other is) none)
      ∙ ap (λ (n : ℕ). Some n) s.next
      ∙ sym (ap (λ (b : Bool). cond (b && true) (Some (next_number past)) (number_of past other)) (same_number past.stop))
  by other false is =
      no_second (number_in kept other) ∙ s.numbers other
      ∙ sym (ap (λ (b : Bool). cond (b && false) (Some (next_number past)) (number_of past other)) (same_number past.stop))

pub one_stands : (kept : Numbers) (past : Past) (target : Target) → StandsFor kept past
    → StandsFor (record kept { targets = with_one kept.targets target }) (issued_one past target)
one_stands kept past target s = by (has target kept.targets) refl where
  with_list : List Target → Numbers
  with_list targets = record kept { targets = targets }

  by : (b : Bool) → has target kept.targets ≡ b
      → StandsFor (record kept { targets = with_one kept.targets target }) (issued_one past target)
  by true is =
      let there : (n : ℕ) × (number_from kept.first target kept.targets ≡ Some n) = some_number kept.first target kept.targets is in
      let same : issued_one past target ≡ past = ap (λ (x : Option ℕ). unless_issued x past target) (sym (s.numbers target) ∙ there.1) in
      let old : with_one kept.targets target ≡ kept.targets = with_one-old kept.targets target is in
      subst (λ (p : Past). StandsFor (record kept { targets = with_one kept.targets target }) p) (sym same)
      (subst (λ (l : List Target). StandsFor (record kept { targets = l }) past) (sym old) s)
  by false is =
      let none : number_in kept target ≡ None = no_number kept.first target kept.targets is in
      let more : issued_one past target ≡ unless_issued None past target = ap (λ (x : Option ℕ). unless_issued x past target)
      (sym (s.numbers target) ∙ none) in
      let new : with_one kept.targets target ≡ kept.targets ++ target ∷ [] = with_one-new kept.targets target is in
      subst (λ (p : Past). StandsFor (record kept { targets = with_one kept.targets target }) p) (sym more)
      (subst (λ (l : List Target). StandsFor (record kept { targets = l }) (unless_issued None past target)) (sym new)
      (new_stands kept past target none s))

pub all_stand : (kept : Numbers) (past : Past) (targets : List Target) → StandsFor kept past
    → StandsFor (with_targets kept targets) (issued_all past targets)
all_stand kept past [] s = s
all_stand kept past (target ∷ others) s =
    all_stand (record kept { targets = with_one kept.targets target }) (issued_one past target) others (one_stands kept past target s)

-- ---- what `issue` answers

map_same : (f g : Target → Option ℕ) → ((target : Target) → f target ≡ g target) → (targets : List Target) → map f targets ≡ map g targets
map_same f g same [] = refl
map_same f g same (target ∷ others) =
    ap (λ (x : Option ℕ). x ∷ map f others) (same target) ∙ ap (λ (l : List (Option ℕ)). g target ∷ l) (map_same f g same others)

pub issues : (kept new : Numbers) (targets : List Target) (numbers : List ℕ) → new ≡ with_targets kept targets
    → map Some numbers ≡ map (number_in (with_targets kept targets)) targets → next_of (with_targets kept targets) ≤ kept.last + 1
    → (past : Past) → StandsFor kept past → Issues past targets kept.last (Ok numbers) new
issues kept new targets numbers is those fits past s =
    let all : StandsFor (with_targets kept targets) (issued_all past targets) = all_stand kept past targets s in
    record {
      stands = subst (λ (k : Numbers). StandsFor k (issued_all past targets)) (sym is) all;
      numbers = those ∙ map_same (number_in (with_targets kept targets)) (number_of (issued_all past targets)) all.numbers targets;
      exhausted = ((λ e. absurd (cc)), (λ more. absurd (omega (arith, all.next, fits, more))));
    }

pub issues_none : (kept : Numbers) (targets : List Target) → kept.last + 1 < next_of (with_targets kept targets)
    → (past : Past) → StandsFor kept past → Issues past targets kept.last (Err Exhausted) kept
issues_none kept targets more past s =
    let all : StandsFor (with_targets kept targets) (issued_all past targets) = all_stand kept past targets s in
    record { stands = tt; numbers = tt; exhausted = ((λ e. omega (arith, all.next, more)), (λ h. refl)) }

pub issues_without_memory : (kept : Numbers) (targets : List Target) → next_of (with_targets kept targets) ≤ kept.last + 1
    → (past : Past) → StandsFor kept past → Issues past targets kept.last (Err NoMemory) kept
issues_without_memory kept targets fits past s =
    let all : StandsFor (with_targets kept targets) (issued_all past targets) = all_stand kept past targets s in
    record { stands = tt; numbers = tt; exhausted = ((λ e. absurd (cc)), (λ more. absurd (omega (arith, all.next, fits, more)))) }

-- ---- the same, by what the code counts

pub none_issued : (kept : Numbers) (last next count : ℕ) (known targets : List Target) → known ≡ kept.targets → last ≡ kept.last
    → next ≡ next_of kept
    → length known + count ≡ length (with_all known targets) → last + 1 - next < count
    → (past : Past) → StandsFor kept past → Issues past targets kept.last (Err Exhausted) kept
none_issued kept last next count known targets is l n counted more =
    let all : length (with_all known targets) ≡ length (with_all kept.targets targets) = ap
    (λ (t : List Target). length (with_all t targets)) is in
    let some : length known ≡ length kept.targets = ap length is in
    issues_none kept targets (omega (arith, l, n, counted, more, all, some))

within_last : (kept : Numbers) (last next count : ℕ) (known targets : List Target) → known ≡ kept.targets → last ≡ kept.last
    → next ≡ next_of kept → next ≤ last + 1
    → length known + count ≡ length (with_all known targets) → count ≤ last + 1 - next → next_of (with_targets kept targets) ≤ kept.last + 1
within_last kept last next count known targets is l n low counted few =
    let all : length (with_all known targets) ≡ length (with_all kept.targets targets) = ap
    (λ (t : List Target). length (with_all t targets)) is in
    let some : length known ≡ length kept.targets = ap length is in
    omega (arith, l, n, low, counted, few, all, some)

pub no_memory : (kept : Numbers) (last next count : ℕ) (known targets : List Target) (answer : Result (Vec ℕ Global) IssueError)
    → known ≡ kept.targets → last ≡ kept.last → next ≡ next_of kept → next ≤ last + 1
    → length known + count ≡ length (with_all known targets) → count ≤ last + 1 - next → answer ≡ Err NoMemory
    → (past : Past) → StandsFor kept past → Issues past targets kept.last (numbers_by answer) kept
no_memory kept last next count known targets answer is l n low counted few none past s =
    subst (λ (a : Result (Vec ℕ Global) IssueError). Issues past targets kept.last (numbers_by a) kept) (sym none)
    (issues_without_memory kept targets (within_last kept last next count known targets is l n low counted few) past s)

pub all_issued : (kept : Numbers) (first last next count : ℕ) (known targets all : List Target) (numbers : List ℕ) → first ≡ kept.first
    → known ≡ kept.targets → last ≡ kept.last → next ≡ next_of kept → next ≤ last + 1
    → length known + count ≡ length (with_all known targets) → count ≤ last + 1 - next → all ≡ with_all known targets
    → map Some numbers ≡ map (λ (target : Target). number_from first target all) targets
    → (past : Past) → StandsFor kept past
    → Issues past targets kept.last (Ok numbers) (record { first = first; targets = all; last = last })
all_issued kept first last next count known targets all numbers f is l n low counted few all_is those =
    let whole : all ≡ with_all kept.targets targets = all_is ∙ ap (λ (t : List Target). with_all t targets) is in
    let new : record { first = first; targets = all; last = last } ≡ with_targets kept targets = cc (f, whole, l) in
    let given : map Some numbers ≡ map (number_in (with_targets kept targets)) targets =
    those ∙ ap (λ (a : List Target). map (λ (target : Target). number_from first target a) targets) whole
    ∙ ap (λ (k : ℕ). map (λ (target : Target). number_from k target (with_all kept.targets targets)) targets) f in
    issues kept (record { first = first; targets = all; last = last }) targets numbers new given
    (within_last kept last next count known targets is l n low counted few)
