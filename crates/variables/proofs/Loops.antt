-- Loops over targets, one target further.
use Rattle.variables.proofs.Common.{[], add-one, All, ap, arith, Bool, cond, drop, drop-cons, false, get_or, has, is_same, length, List, map, map-append, None, number_from, Option, Some, suc, sym, take, take_more, Target, true, with_all, with_one, ℕ, ◌++◌, ◌+◌, ◌<◌, ◌||◌, ◌∙◌, ◌∷◌, ◌≡◌}
use Rattle.std.proofs.lemmas.List.Elements.{All-get_or}
use Rattle.variables.proofs.Targets.{has-with_all, length-with_one, some_number, with_all-append}

left_from : (targets : List Target) (i : ℕ) (t : Target) → i < length targets → t ≡ get_or targets i t
    → drop i targets ≡ t ∷ drop (i + 1) targets
left_from targets i t h is = rw add-one (drop-cons targets i t h ∙ ap (λ (x : Target). x ∷ drop (suc i) targets) (sym is))

taken_to : (targets : List Target) (i : ℕ) (t : Target) → i < length targets → t ≡ get_or targets i t
    → take (i + 1) targets ≡ take i targets ++ t ∷ []
taken_to targets i t h is = take_more targets i t h ∙ ap (λ (x : Target). take i targets ++ x ∷ []) (sym is)

pub with_all_on : (all all' known targets : List Target) (i : ℕ) (t : Target) → i < length targets → t ≡ get_or targets i t
    → all' ≡ with_one all t → with_all all (drop i targets) ≡ with_all known targets
    → with_all all' (drop (i + 1) targets) ≡ with_all known targets
with_all_on all all' known targets i t h is one e =
    ap (λ (l : List Target). with_all l (drop (i + 1) targets)) one ∙ sym (ap (with_all all) (left_from targets i t h is)) ∙ e

pub count_on : (known targets : List Target) (i count one : ℕ) (d : Target) → i < length targets
    → one ≡ cond (has (get_or targets i d) known || has (get_or targets i d) (take i targets)) 0 1
    → length known + count ≡ length (with_all known (take i targets))
    → length known + (count + one) ≡ length (with_all known (take (i + 1) targets))
count_on known targets i count one d h is e =
    let t : Target = get_or targets i d in
    let before : List Target = with_all known (take i targets) in
    let there : ◌≡◌ {A = ℕ} (cond (has t before) 0 1) (cond (has t known || has t (take i targets)) 0 1) = ap (λ (b : Bool). cond b 0 1)
    (has-with_all t known (take i targets)) in
    let more : length (with_one before t) ≡ length before + cond (has t before) 0 1 = length-with_one before t in
    let all : length (with_all known (take (i + 1) targets)) ≡ length (with_one before t) = ap length
    (ap (with_all known) (take_more targets i d h) ∙ with_all-append known (take i targets) t) in
    omega (arith, is, e, there, more, all)

pub number_here : (first : ℕ) (target t : Target) (targets : List Target) (i : ℕ) (r : Option ℕ) → i < length targets
    → t ≡ get_or targets i t → is_same t target ≡ true → number_from first target (drop i targets) ≡ r → r ≡ Some first
number_here first target t targets i r h is same e =
    sym e ∙ ap (number_from first target) (left_from targets i t h is)
    ∙ ap (λ (b : Bool). cond b (Some first) (number_from (first + 1) target (drop (i + 1) targets))) same

pub number_later : (first : ℕ) (target t : Target) (targets : List Target) (i : ℕ) (r : Option ℕ) → i < length targets
    → t ≡ get_or targets i t → is_same t target ≡ false → number_from first target (drop i targets) ≡ r
    → number_from (first + 1) target (drop (i + 1) targets) ≡ r
number_later first target t targets i r h is other e =
    sym (ap (number_from first target) (left_from targets i t h is)
    ∙ ap (λ (b : Bool). cond b (Some first) (number_from (first + 1) target (drop (i + 1) targets))) other) ∙ e

pub numbers_on : (f : Target → Option ℕ) (targets : List Target) (i n : ℕ) (t : Target) (numbers numbers' : List ℕ) → i < length targets
    → t ≡ get_or targets i t → f t ≡ Some n → numbers' ≡ numbers ++ n ∷ [] → map Some numbers ≡ map f (take i targets)
    → map Some numbers' ≡ map f (take (i + 1) targets)
numbers_on f targets i n t numbers numbers' h is number more e =
    ap (map (λ (n : ℕ). Some n)) more ∙ map-append (λ (n : ℕ). Some n) numbers (n ∷ [])
    ∙ ap (λ (l : List (Option ℕ)). l ++ Some n ∷ []) e
    ∙ ap (λ (x : Option ℕ). map f (take i targets) ++ x ∷ []) (sym number)
    ∙ sym (ap (map f) (taken_to targets i t h is) ∙ map-append f (take i targets) (t ∷ []))

-- a target that is there has a number
pub has_number : (first i : ℕ) (d : Target) (known targets : List Target) (r : Option ℕ) → i < length targets
    → All (λ (t : Target). has t known ≡ true) targets → r ≡ number_from first (get_or targets i d) known → r ≡ None → ⊥
has_number first i d known targets r h all is none =
    let some : (n : ℕ) × (number_from first (get_or targets i d) known ≡ Some n) = some_number first (get_or targets i d) known
    (All-get_or (λ (t : Target). has t known ≡ true) targets i d h all) in
    let e : None ≡ Some some.0 = sym none ∙ is ∙ some.1 in
    cc
