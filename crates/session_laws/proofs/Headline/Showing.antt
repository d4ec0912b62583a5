-- Requests that look in: what their successes tell is so, and numbers that are issued leave what is known. `stackTrace`: the frames
-- that its success tells are those of the call stack, by the numbers that they have.
use Rattle.session_laws.proofs.Headline.Common.{[], addresses, ap, arith, Asked, Bool, Command, drop, eq-eqb, eqb, Facts, false, Frame, frame_at, frame_in, frame_of, FrameInfo, frames_given, given_of, has, HoldsAt, if_keeps, indices, is_same, is_some, issues, IsTrue, length, List, list_any-append, looks_in, map, None, not, Now, number_for, number_from, number_in, Numbers, Option, option_map, or_left, or_right, over, part, Program, range_with_len, refl, ResponseBody, seen_in, shown_of, slice_get, slice_get-get_or, slice_get-map, slice_index, Some, start, subst, suc, succeeded, sym, Target, Terms, true, View, with_all, with_one, with_targets, zero, ℕ, ◌++◌, ◌+◌, ◌<◌, ◌||◌, ◌∙◌, ◌∷◌, ◌≡◌}
use Rattle.mirror.specs.declared.asked.Asked.TheVariants as asks
use Rattle.answers.specs.StackTrace.{frame_at as frame_told}
use Rattle.protocol.specs.declared.stack_trace.StackTraceArguments.{StackTraceArguments}
use Rattle.session_laws.proofs.Headline.Agreeing.{Agrees, FramesNumbered, never, stand_agrees, Stands}
use Rattle.session_laws.proofs.Headline.Leading.{alone, AnswerLeads}
use Rattle.session_laws.proofs.Headline.Valuing.{get_take, over_all}

-- ---- numbers that were issued stay

number_more : (first : ℕ) (target : Target) (xs ys : List Target) (n : ℕ) → number_from first target xs ≡ Some n
    → number_from first target (xs ++ ys) ≡ Some n
number_more first target [] ys n e = never n e
number_more first target (x ∷ xs) ys n e = grind (arith, number_more (first + 1) target xs ys n)

-- what one target more keeps, all that are issued keep
pub with_all_keeps : (P : List Target → Type 0) → ((known : List Target) (x : Target) → P known → P (known ++ x ∷ []))
    → (known news : List Target) → P known → P (with_all known news)
with_all_keeps P more known [] h = h
with_all_keeps P more known (x ∷ news) h =
    with_all_keeps P more (with_one known x) news (if_keeps P (has x known) known (known ++ x ∷ []) (λ _. h) (λ _. more known x h))

module _ (numbers : Numbers) (targets : List Target) where
  number_stays : (target : Target) (n : ℕ) → number_in numbers target ≡ Some n → number_in (with_targets numbers targets) target ≡ Some n
  number_stays target n e =
      with_all_keeps (λ (l : List Target). number_from numbers.first target l ≡ Some n)
      (λ known x e. number_more numbers.first target known (x ∷ []) n e) numbers.targets targets e

  numbered_more : (f : Facts) → FramesNumbered numbers f → FramesNumbered (with_targets numbers targets) f
  numbered_more f h index x e = number_stays (Frame index) x.id (h index x e)

  -- a frame that is known is the same by more numbers
  frames_stay : (p : Program) (f : Facts) → FramesNumbered numbers f → HoldsAt f.frame (shown_of p numbers).frame
      → HoldsAt f.frame (shown_of p (with_targets numbers targets)).frame
  frames_stay p f h holds index x e = grind (arith, holds index x e, number_stays (Frame index) x.id (h index x e), h index x e)

  pub issued_agrees : (f : Facts) (p : Program) (terms : Terms) → Agrees f (Some p) numbers terms
      → Agrees f (Some p) (with_targets numbers targets) terms
  issued_agrees f p terms h = assumption (frames_stay p f h.numbered h.holds.frame, numbered_more f h.numbered)

-- ---- what is shown

-- a success tells nothing to one who asked nothing that is told
other_tells : (b : ResponseBody) (f : Facts) → succeeded b asks.Other f ≡ f
other_tells b f = grind arith

-- what a body tells is so by the numbers that then exist
abbrev pub Tells : Asked → Facts → Program → Numbers → Terms → ResponseBody → List Target → Type 0
Tells asked f p numbers terms b targets = Agrees (succeeded b asked f) (Some p) (with_targets numbers targets) terms

-- a look that shows something, where what its body tells is so
pub shown_leads : (now : Now) (terms : Terms) (command : Command) (asked : Asked) (f : Facts) (p : Program) (b : ResponseBody)
    → now.debuggee.program ≡ Some p
    → Tells asked f p now.numbers terms b (seen_in p (given_of now) terms command).targets
    → AnswerLeads now f (Some asked) (issues (given_of now) terms b (seen_in p (given_of now) terms command).targets)
shown_leads now terms command asked f p b is so =
    let targets = (seen_in p (given_of now) terms command).targets in
    alone (succeeded b asked f) now.debuggee.program (with_targets now.numbers targets) terms (rw is so)

abbrev pub is_other : Asked → Bool
is_other asks.Other = true
is_other asked = false

other_is : (asked : Asked) → is_other asked ≡ true → asked ≡ asks.Other
other_is asked e = grind arith

so_of_look : (other looks : Bool) → (other || not looks) ≡ true → looks ≡ true → other ≡ true
so_of_look other looks e h = grind arith

-- a look whose success tells nothing
pub other_tells_so : (now : Now) (terms : Terms) (command : Command) (asked : Asked) (f : Facts) (p : Program) (b : ResponseBody)
    → IsTrue (looks_in command) → (is_other asked || not (looks_in command)) ≡ true
    → Agrees f (Some p) now.numbers terms → Tells asked f p now.numbers terms b (seen_in p (given_of now) terms command).targets
other_tells_so now terms command asked f p b looks e a =
    let targets = (seen_in p (given_of now) terms command).targets in
    rw (other_is asked (so_of_look (is_other asked) (looks_in command) e looks), other_tells b f)
    (issued_agrees now.numbers targets f p terms a)

-- ---- lists

record Comes {A B : Type 0} (f : A → B) (l : List A) (j : ℕ) (y : B) : Type 0 where
  from : A
  there : slice_get l j ≡ Some from
  is : f from ≡ y

get_map : {A B : Type 0} (f : A → B) (l : List A) (j : ℕ) (y : B) → slice_get (map f l) j ≡ Some y → Comes f l j y
get_map f [] j y e = never y e
get_map f (x ∷ l) zero y e = record { from = x; there = refl; is = let same : f x ≡ y = cc in same }
get_map f (x ∷ l) (suc j) y e = let c = get_map f l j y e in record { from = c.from; there = c.there; is = c.is }

map_get : {A B : Type 0} (f : A → B) (l : List A) (j : ℕ) (x : A) → slice_get l j ≡ Some x → slice_get (map f l) j ≡ Some (f x)
map_get f l j x e = slice_get-map f l j ∙ ap (option_map f) e

get_drop : {A : Type 0} (l : List A) (n j : ℕ) → slice_get (drop n l) j ≡ slice_get l (n + j)
get_drop {A = A} l zero j = let e : j ≡ 0 + j = omega arith in ap (slice_get l) e
get_drop {A = A} [] (suc n) j = refl
get_drop {A = A} (x ∷ l) (suc n) j = get_drop {A = A} l n j ∙ (let e : suc (n + j) ≡ suc n + j = omega arith in ap (slice_get (x ∷ l)) e)

get_part : (start : ℕ) (count : Option ℕ) (l : List ℕ) (j x : ℕ) → slice_get (part start count l) j ≡ Some x
    → slice_get l (start + j) ≡ Some x
get_part start None l j x e = sym (get_drop l start j) ∙ e
get_part start (Some count) l j x e =
    sym (get_drop l start j)
    ∙ if_keeps (λ (rest : List ℕ). slice_get rest j ≡ Some x → slice_get (drop start l) j ≡ Some x) (eqb count 0) _ _ (λ _ e. e)
    (λ _ e. (get_take count (drop start l) j x e).0) e

pub get_range : (from n j x : ℕ) → slice_get (range_with_len from n) j ≡ Some x → (x ≡ from + j) × (j < n)
get_range from zero j x e = absurd (let no : None ≡ Some x = e in cc)
get_range from (suc n) zero x e = (let same : from ≡ x = cc in omega (arith, same), omega arith)
get_range from (suc n) (suc j) x e =
    let rest = get_range (from + 1) n j x e in
    (let is = rest.0 in omega (arith, is), let less = rest.1 in omega (arith, less))

-- ---- a target that was given has a number

same_itself : (t : Target) → is_same t t ≡ true
same_itself (Frame index) = eq-eqb index index refl
same_itself _ = refl

number_is_some : (first : ℕ) (t : Target) (known : List Target) → is_some (number_from first t known) ≡ has t known
number_is_some first t [] = refl
number_is_some first t (k ∷ known) = grind (arith, number_is_some (first + 1) t known)

one_there : (t : Target) (known : List Target) → has t (with_one known t) ≡ true
one_there t known =
    if_keeps (λ (l : List Target). has t l ≡ true) (has t known) _ _ (λ e. e)
    (λ _. list_any-append (λ k. is_same k t) known (t ∷ []) ∙ or_right (has t known) _ (or_left (is_same t t) _ (same_itself t)))

all_there : (t : Target) (known ts : List Target) (j : ℕ) → slice_get ts j ≡ Some t → has t (with_all known ts) ≡ true
all_there t known [] j e = never t e
all_there t known (x ∷ ts) zero e =
    let same : t ≡ x = cc in
    with_all_keeps (λ (l : List Target). has t l ≡ true)
    (λ known y e. list_any-append (λ k. is_same k t) known (y ∷ []) ∙ or_left (has t known) _ e) (with_one known x) ts
    (subst (λ (y : Target). has t (with_one known y) ≡ true) same (one_there t known))
all_there t known (x ∷ ts) (suc j) e = all_there t (with_one known x) ts j e

given_number : (numbers : Numbers) (ts : List Target) (t : Target) (j : ℕ) → slice_get ts j ≡ Some t
    → number_in (with_targets numbers ts) t ≡ Some (number_for (with_targets numbers ts) t)
given_number numbers ts t j e =
    let there = number_is_some numbers.first t (with_all numbers.targets ts) ∙ all_there t numbers.targets ts j e in grind (arith, there)

-- ---- the frames

module _ (arguments : StackTraceArguments) (p : Program) (numbers : Numbers) (view : View) where
  abbrev given : Numbers
  given = with_targets numbers (frames_given arguments p.machine)

  abbrev all : List ℕ
  all = addresses p.machine

  abbrev some : List ℕ
  some = indices arguments (length all)

  abbrev told : List FrameInfo
  told = map frame_of (map (frame_told p.image.lines view given all) some)

  record IsFrame (index : ℕ) (x : FrameInfo) : Type 0 where
    so : frame_at p.image.lines given index (slice_get all index) ≡ Some x
    numbered : number_in given (Frame index) ≡ Some x.id

  is_frame : (j index : ℕ) → slice_get some j ≡ Some index → index < length all
      → IsFrame index (frame_in p.image.lines given index (slice_index all index))
  is_frame j index there less = record {
    so = ap (frame_at p.image.lines given index) (slice_get-get_or all index 0 less);
    numbered = given_number numbers (frames_given arguments p.machine) (Frame index) j (map_get (λ index. Frame index) some j index there);
  }

  told_frame : (j : ℕ) (x : FrameInfo) → slice_get told j ≡ Some x → IsFrame (arguments.start_frame + j) x
  told_frame j x e =
      let c = get_map frame_of (map (frame_told p.image.lines view given all) some) j x e in
      let d = get_map (frame_told p.image.lines view given all) some j c.from c.there in
      let r = get_range 0 (length all) (arguments.start_frame + j) d.from
      (get_part arguments.start_frame arguments.levels (range_with_len 0 (length all)) j d.from d.there) in
      let is : d.from ≡ arguments.start_frame + j = let f = r.0 in omega (arith, f) in
      subst (λ (index : ℕ). IsFrame index x) is
      (subst (IsFrame d.from) (ap frame_of d.is ∙ c.is) (is_frame j d.from d.there (subst (λ (i : ℕ). i < length all) (sym is) r.1)))

  pub frames_agree : (f : Facts) (terms : Terms) → Stands f p numbers terms
      → Agrees (record f { frame = over arguments.start_frame told f.frame }) (Some p) given terms
  frames_agree f terms s =
      let i = issued_agrees numbers (frames_given arguments p.machine) f p terms s.agrees in
      stand_agrees f p p.machine.hart p.machine.memory p.machine.past numbers given terms (over arguments.start_frame told f.frame) f.register
      f.byte s
      (over_all (λ index x. (shown_of p given).frame index ≡ Some x) arguments.start_frame told f.frame
      (λ j x e. (told_frame j x e).so) (λ index x _ e. i.holds.frame index x e))
      i.holds.register i.holds.byte
      (over_all (λ index x. number_in given (Frame index) ≡ Some x.id) arguments.start_frame told f.frame
      (λ j x e. (told_frame j x e).numbered) (λ index x _ e. i.numbered index x e))
