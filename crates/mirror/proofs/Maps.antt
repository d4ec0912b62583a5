-- What maps and lists have, as functions.
use Rattle.mirror.proofs.Common.{[], ap, arith, Bool, breaks_of, bytes_eq, cond, false, filter, find, flat, length, List, listed, nat_le, nat_lt, None, not, Option, PlaceIs, refl, register_in, replicate, slice_get, Some, source_in, subst, suc, sym, true, unknown, upto, zero, ℕ, ◌&&◌, ◌++◌, ◌+◌, ◌-◌, ◌<◌, ◌^◌, ◌∙◌, ◌∷◌, ◌≡◌, ◌≤◌}
use Rattle.std.proofs.lemmas.Bool.Decides.{nat_tests}
use Rattle.std.proofs.lemmas.Slice.Eq.{bytes_eq-Decides}
use Rattle.std.specs.Cmp.{nat_cmp_is}
use Rattle.std.specs.Ordering.{nat_cmp, is_eq}
use Rattle.std.specs.declared.cmp.Ordering.TheVariants.{Less, Equal, Greater}
use Rattle.std.specs.BTreeMap.{is_at}
use mathlib.Core.Path.{fun_ext}
use Rattle.mirror.specs.Folding.{over}
use Rattle.facts.specs.declared.breakpoint.BreakInfo.{BreakInfo}
use Rattle.mirror.specs.declared.sources.Listed.{Listed}

pub at_same : (k q : ℕ) → k ≡ q → is_at (nat_cmp k) q ≡ true
at_same k q h = ap is_eq (sym (nat_cmp_is k q Equal h))

pub at_above : (k q : ℕ) → k < q → is_at (nat_cmp k) q ≡ false
at_above k q h = ap is_eq (sym (nat_cmp_is k q Less h))

pub at_below : (k q : ℕ) → q < k → is_at (nat_cmp k) q ≡ false
at_below k q h = ap is_eq (sym (nat_cmp_is k q Greater h))

-- one more of a list is told
upto_step_by : {A : Type 0} (first i q : ℕ) (items : List A) (old mid new : Option A) (x : A) → first + i < 2 ^ 32
    → slice_get items i ≡ Some x
    → mid ≡ cond (nat_le first q && nat_lt q (first + i) && nat_lt q (2 ^ 32)) (slice_get items (q - first)) old
    → new ≡ cond (is_at (nat_cmp (first + i)) q) (Some x) mid
    → new ≡ cond (nat_le first q && nat_lt q (first + (i + 1)) && nat_lt q (2 ^ 32)) (slice_get items (q - first)) old
upto_step_by first i q items old mid new x fits is told put = grind (arith, nat_tests, at_same, at_above, at_below)

pub upto_step : {A : Type 0} (first i k : ℕ) (items : List A) (old mid new : ℕ → Option A) (x : A) → k ≡ first + i → k < 2 ^ 32
    → slice_get items i ≡ Some x
    → ((q : ℕ) → mid q ≡ upto i first items old q) → ((q : ℕ) → new q ≡ cond (is_at (nat_cmp k) q) (Some x) (mid q))
    → (q : ℕ) → new q ≡ upto (i + 1) first items old q
upto_step first i k items old mid new x e fits is told put q =
    let room : first + i < 2 ^ 32 = omega arith in
    upto_step_by first i q items (old q) (mid q) (new q) x room is (told q)
    (put q ∙ ap (λ (n : ℕ). cond (is_at (nat_cmp n) q) (Some x) (mid q)) e)

-- all are told
pub upto_whole : {A : Type 0} (first i : ℕ) (items : List A) (old new : ℕ → Option A) → i ≡ length items
    → ((q : ℕ) → new q ≡ upto i first items old q)
    → new ≡ over first items old
unfolding over
upto_whole first i items old new e told = fun_ext (λ q. told q ∙ ap (λ (n : ℕ). upto n first items old q) e)

-- the places are used up
upto_more_by : {A : Type 0} (first i n q : ℕ) (x y : Option A) → i ≤ n → 2 ^ 32 ≤ first + i
    → cond (nat_le first q && nat_lt q (first + i) && nat_lt q (2 ^ 32)) x y ≡ cond (nat_le first q && nat_lt q (first + n) && nat_lt q (2 ^ 32)) x y
upto_more_by first i n q x y l used = grind (arith, nat_tests)

pub upto_last : {A : Type 0} (first i : ℕ) (items : List A) (old new : ℕ → Option A) → i ≤ length items → 2 ^ 32 ≤ first + i
    → ((q : ℕ) → new q ≡ upto i first items old q) → new ≡ over first items old
unfolding over
upto_last first i items old new l used told =
    fun_ext (λ q. told q ∙ upto_more_by first i (length items) q (slice_get items (q - first)) (old q) l used)

-- nothing is told yet
pub upto_none : {A : Type 0} (first q : ℕ) (items : List A) (old : ℕ → Option A) → old q ≡ upto 0 first items old q
upto_none first q items old = grind (arith, nat_tests)

-- none of the registers was told
no_value : (n number : ℕ) → flat (slice_get (replicate n None) number) ≡ None
no_value zero number = refl
no_value (suc n) zero = refl
no_value (suc n) (suc number) = no_value n number

pub nothing_in : (n : ℕ) → register_in (replicate n None) ≡ unknown
nothing_in n = fun_ext (no_value n)

-- ---- the lists of sources

same_path : (a b c : List ℕ) (d : Bool) → bytes_eq a b ≡ true → bytes_eq a c ≡ d → bytes_eq b c ≡ d
same_path a b c d e f = sym (ap (λ (p : List ℕ). bytes_eq p c) ((bytes_eq-Decides a b).0 e)) ∙ f

other_path : (a b c : List ℕ) (d : Bool) → bytes_eq a b ≡ false → bytes_eq a c ≡ true → bytes_eq b c ≡ d → d ≡ false
other_path a b c false e f g = refl
other_path a b c true e f g =
    absurd (not_both ((bytes_eq-Decides a b).1 ((bytes_eq-Decides a c).0 f ∙ sym ((bytes_eq-Decides b c).0 g))) e) where
      not_both : bytes_eq a b ≡ true → bytes_eq a b ≡ false → ⊥
      not_both x y = cc

told_by : (b : Bool) (list : Listed) → breaks_of (cond b (Some list) None) ≡ cond b list.breaks []
told_by true list = refl
told_by false list = refl

-- one more list before the others
told_step : (list l : Listed) (asked : List ℕ) (kept rest : List Listed) (b d : Bool) → bytes_eq l.path list.path ≡ b
    → bytes_eq l.path asked ≡ d
    → breaks_of (find (λ k. bytes_eq k.path asked) (kept ++ list ∷ [])) ≡ cond (bytes_eq list.path asked) list.breaks (breaks_of (find (λ k. bytes_eq k.path asked) rest))
    → breaks_of (find (λ k. bytes_eq k.path asked) (cond (not b) (l ∷ kept) kept ++ list ∷ []))
    ≡ cond (bytes_eq list.path asked) list.breaks (breaks_of (cond d (Some l) (find (λ k. bytes_eq k.path asked) rest)))
told_step list l asked kept rest true true e f others =
    let s = same_path l.path list.path asked true e f in
    others ∙ ap (λ t. cond t list.breaks (breaks_of (find (λ k. bytes_eq k.path asked) rest))) s
    ∙ sym (ap (λ t. cond t list.breaks l.breaks) s)
told_step list l asked kept rest true false e f others = others
told_step list l asked kept rest false true e f others =
    ap (λ t. breaks_of (cond t (Some l) (find (λ k. bytes_eq k.path asked) (kept ++ list ∷ [])))) f
    ∙ sym (ap (λ t. cond t list.breaks l.breaks) (other_path l.path list.path asked (bytes_eq list.path asked) e f refl))
told_step list l asked kept rest false false e f others =
    ap (λ t. breaks_of (cond t (Some l) (find (λ k. bytes_eq k.path asked) (kept ++ list ∷ [])))) f ∙ others

-- a list takes the place of that of its path
list_told : (list : Listed) (asked : List ℕ) (lists : List Listed)
    → source_in (filter (λ l. not (bytes_eq l.path list.path)) lists ++ list ∷ []) asked ≡ listed list.path list.breaks (source_in lists) asked
list_told list asked [] = told_by (bytes_eq list.path asked) list
list_told list asked (l ∷ lists) =
    told_step list l asked (filter (λ k. not (bytes_eq k.path list.path)) lists) lists (bytes_eq l.path list.path)
    (bytes_eq l.path asked) refl refl (list_told list asked lists)
    ∙ ap (λ t. cond (bytes_eq list.path asked) list.breaks t) refl

pub list_put : (path copy : List ℕ) (breaks : List BreakInfo) (old dropped pushed : List Listed) → copy ≡ path
    → dropped ≡ filter (λ l. not (bytes_eq l.path path)) old → pushed ≡ dropped ++ record { path = copy; breaks = breaks } ∷ []
    → source_in pushed ≡ listed path breaks (source_in old)
list_put path copy breaks old dropped pushed same drops pushes =
    let list : Listed = record { path = path; breaks = breaks } in
    ap source_in (pushes ∙ ap (λ (p : List ℕ). dropped ++ record { path = p; breaks = breaks } ∷ []) same
    ∙ ap (λ (ls : List Listed). ls ++ list ∷ []) drops)
    ∙ fun_ext (λ asked. list_told list asked old)

-- ---- places

-- the place after this one is the next
pub place_next : (o : Option ℕ) (place first i : ℕ) → place ≡ first + i → PlaceIs o (place + 1) → PlaceIs o (first + (i + 1))
place_next o place first i e next = let n : place + 1 ≡ first + (i + 1) = omega arith in subst (PlaceIs o) n next
