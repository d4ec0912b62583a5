-- Lists of targets, and their numbers.
use Rattle.variables.proofs.Common.{[], All, ap, arith, Bool, cond, false, get_or, has, is_same, length, length-append, List, nat_tests, None, number_from, Option, refl, Some, subst, suc, sym, Target, true, with_all, with_one, ℕ, ◌++◌, ◌+◌, ◌==◌, ◌||◌, ◌∙◌, ◌∷◌, ◌≡◌, ◌≤◌}
use Rattle.std.proofs.lemmas.Bool.{eqb-true}
use Rattle.std.proofs.lemmas.List.Elements.{All-from_get_or}
use Rattle.std.proofs.lemmas.List.Folds.{list_any-append, list_any_at}
use Rattle.variables.specs.declared.target.Target.TheVariants.{Frame, Registers, Stack}

-- ---- targets

pub is_same-true : (a b : Target) → is_same a b ≡ true → a ≡ b
is_same-true (Frame j) (Frame k) e = ap Frame (eqb-true j k e)
is_same-true Registers Registers e = refl
is_same-true Stack Stack e = refl
is_same-true (Frame j) Registers e = cc
is_same-true (Frame j) Stack e = cc
is_same-true Registers (Frame k) e = cc
is_same-true Registers Stack e = cc
is_same-true Stack (Frame k) e = cc
is_same-true Stack Registers e = cc

same_number : (k : ℕ) → (k == k) ≡ true
same_number k = grind (arith, nat_tests)

pub is_same-itself : (a : Target) → is_same a a ≡ true
is_same-itself (Frame k) = same_number k
is_same-itself Registers = refl
is_same-itself Stack = refl

-- ---- their numbers

-- the first of two that is there
abbrev pub first_of_two : Option ℕ → Option ℕ → Option ℕ
first_of_two (Some n) other = Some n
first_of_two None other = other

pub no_second : (x : Option ℕ) → first_of_two x None ≡ x
no_second (Some n) = refl
no_second None = refl

one_more : (b : Bool) (n : ℕ) (x y z : Option ℕ) → x ≡ first_of_two y z → cond b (Some n) x ≡ first_of_two (cond b (Some n) y) z
one_more true n x y z e = refl
one_more false n x y z e = e

-- the number of a target where one more is appended
pub number_from-append : (first : ℕ) (target last : Target) (known : List Target)
    → number_from first target (known ++ last ∷ []) ≡ first_of_two (number_from first target known) (cond (is_same last target) (Some (first + length known)) None)
number_from-append first target last [] = ap (λ (n : ℕ). cond (is_same last target) (Some n) None) (omega arith)
number_from-append first target last (t ∷ known) =
    let later : number_from (first + 1) target (known ++ last ∷ []) ≡ first_of_two (number_from (first + 1) target known)
    (cond (is_same last target) (Some (first + 1 + length known)) None) = number_from-append (first + 1) target last known in
    let place : first + 1 + length known ≡ first + suc (length known) = omega arith in
    one_more (is_same t target) first _ _ _
    (later ∙ ap (λ (n : ℕ). first_of_two (number_from (first + 1) target known) (cond (is_same last target) (Some n) None)) place)

-- one that is not there has no number, and one that is there has one
pub no_number : (first : ℕ) (target : Target) (known : List Target) → has target known ≡ false → number_from first target known ≡ None
no_number first target [] e = refl
no_number first target (t ∷ known) e = by (is_same t target) refl (no_number (first + 1) target known) where
  by : (b : Bool) → is_same t target ≡ b → (has target known ≡ false → number_from (first + 1) target known ≡ None)
      → number_from first target (t ∷ known) ≡ None
  by true is later = let there : has target (t ∷ known) ≡ true = ap (λ (b : Bool). b || has target known) is in absurd (cc)
  by false is later =
      let rest : has target known ≡ false = sym (ap (λ (b : Bool). b || has target known) is) ∙ e in
      ap (λ (b : Bool). cond b (Some first) (number_from (first + 1) target known)) is ∙ later rest

pub some_number : (first : ℕ) (target : Target) (known : List Target) → has target known ≡ true
    → (n : ℕ) × (number_from first target known ≡ Some n)
some_number first target [] e = absurd (cc)
some_number first target (t ∷ known) e = by (is_same t target) refl (some_number (first + 1) target known) where
  by : (b : Bool) → is_same t target ≡ b → (has target known ≡ true → (n : ℕ) × (number_from (first + 1) target known ≡ Some n))
      → (n : ℕ) × (number_from first target (t ∷ known) ≡ Some n)
  by true is rest = (first, ap (λ (b : Bool). cond b (Some first) (number_from (first + 1) target known)) is)
  by false is rest =
      let later : (n : ℕ) × (number_from (first + 1) target known ≡ Some n) = rest
      (sym (ap (λ (b : Bool). b || has target known) is) ∙ e) in
      (later.0, ap (λ (b : Bool). cond b (Some first) (number_from (first + 1) target known)) is ∙ later.1)

-- ---- with one more, and with some

pub with_one-old : (known : List Target) (target : Target) → has target known ≡ true → with_one known target ≡ known
with_one-old known target e = ap (λ (b : Bool). cond b known (known ++ target ∷ [])) e

pub with_one-new : (known : List Target) (target : Target) → has target known ≡ false → with_one known target ≡ known ++ target ∷ []
with_one-new known target e = ap (λ (b : Bool). cond b known (known ++ target ∷ [])) e

-- a number stays, with one more and with some
pub with_one-keeps : (first : ℕ) (target other : Target) (known : List Target) (n : ℕ) → number_from first target known ≡ Some n
    → number_from first target (with_one known other) ≡ Some n
with_one-keeps first target other known n e = by (has other known) refl where
  by : (b : Bool) → has other known ≡ b → number_from first target (with_one known other) ≡ Some n
  by true is = ap (number_from first target) (with_one-old known other is) ∙ e
  by false is =
      ap (number_from first target) (with_one-new known other is) ∙ number_from-append first target other known
      ∙ ap (λ (x : Option ℕ). first_of_two x (cond (is_same other target) (Some (first + length known)) None)) e

pub with_all-keeps : (first : ℕ) (target : Target) (known others : List Target) (n : ℕ) → number_from first target known ≡ Some n
    → number_from first target (with_all known others) ≡ Some n
with_all-keeps first target known [] n e = e
with_all-keeps first target known (other ∷ others) n e =
    with_all-keeps first target (with_one known other) others n (with_one-keeps first target other known n e)

pub or-true : (b : Bool) → (b || true) ≡ true
or-true true = refl
or-true false = refl

or-none : (b : Bool) → (b || false) ≡ b
or-none true = refl
or-none false = refl

or-assoc : (a b c : Bool) → ((a || b) || c) ≡ (a || (b || c))
or-assoc true b c = refl
or-assoc false b c = refl

-- what is in them
pub has-append : (target last : Target) (known : List Target) → has target (known ++ last ∷ []) ≡ (has target known || is_same last target)
has-append target last known =
    list_any-append (λ t. is_same t target) known (last ∷ []) ∙ ap (λ (b : Bool). has target known || b) (or-none (is_same last target))

pub has-with_one : (target last : Target) (known : List Target)
    → has target (with_one known last) ≡ (has target known || is_same last target)
has-with_one target last known = by (has last known) refl where
  there : (b : Bool) → is_same last target ≡ b → has last known ≡ true → has target known ≡ (has target known || b)
  there true same is = subst (λ (t : Target). has t known ≡ true) (is_same-true last target same) is ∙ sym (or-true (has target known))
  there false same is = sym (or-none (has target known))

  by : (b : Bool) → has last known ≡ b → has target (with_one known last) ≡ (has target known || is_same last target)
  by true is = ap (has target) (with_one-old known last is) ∙ there (is_same last target) refl is
  by false is = ap (has target) (with_one-new known last is) ∙ has-append target last known

pub has-with_all : (target : Target) (known others : List Target)
    → has target (with_all known others) ≡ (has target known || has target others)
has-with_all target known [] = sym (or-none (has target known))
has-with_all target known (other ∷ others) =
    has-with_all target (with_one known other) others
    ∙ ap (λ (b : Bool). b || has target others) (has-with_one target other known)
    ∙ or-assoc (has target known) (is_same other target) (has target others)

-- each of those that are added is there
pub all_there : (known others : List Target) → All (λ (target : Target). has target (with_all known others) ≡ true) others
all_there known others = All-from_get_or (λ (target : Target). has target (with_all known others) ≡ true) others Registers (λ i h.
    let t : Target = get_or others i Registers in
    let there : has t others ≡ true = list_any_at (λ (u : Target). is_same u t) others i Registers h (is_same-itself t) in
    has-with_all t known others ∙ ap (λ (b : Bool). has t known || b) there ∙ or-true (has t known))

-- one after the other is all of them
pub with_all-append : (known others : List Target) (last : Target)
    → with_all known (others ++ last ∷ []) ≡ with_one (with_all known others) last
with_all-append known [] last = refl
with_all-append known (other ∷ others) last = with_all-append (with_one known other) others last

-- how many come to them
pub length-with_one : (known : List Target) (target : Target) → length (with_one known target) ≡ length known + cond (has target known) 0 1
length-with_one known target = by (has target known) refl where
  by : (b : Bool) → has target known ≡ b → length (with_one known target) ≡ length known + cond b 0 1
  by true is = ap length (with_one-old known target is) ∙ omega arith
  by false is = ap length (with_one-new known target is) ∙ length-append known (target ∷ [])

-- and how many there are at most
with_one-short : (b : Bool) (n : ℕ) → n + cond b 0 1 ≤ n + 1
with_one-short true n = omega arith
with_one-short false n = omega arith

pub with_all-short : (known others : List Target) → length (with_all known others) ≤ length known + length others
with_all-short known [] = omega arith
with_all-short known (other ∷ others) =
    let rest : length (with_all (with_one known other) others) ≤ length (with_one known other) + length others = with_all-short
    (with_one known other) others in
    let one : length (with_one known other) ≡ length known + cond (has other known) 0 1 = length-with_one known other in
    let short : length known + cond (has other known) 0 1 ≤ length known + 1 = with_one-short (has other known) (length known) in
    omega (arith, rest, one, short)
