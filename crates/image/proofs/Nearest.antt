-- The label that an address goes by, found by halving or by looking at each.
use Rattle.image.proofs.Common.{[], AllWithin, ap, arith, Bool, cond, false, filter, first_address, first_greatest, get_or, get_or-map, in_image, inl, inr, Label, label_at, labels_of, length, List, list_all, map, nat_le, nat_lt, nat_tests, None, Option, option_map, place_of, refl, slice_get, slice_get-get_or, slice_get-map, Some, String, string_bytes, subst, suc, sym, Table, true, up_to, zero, ℕ, ◌&&◌, ◌-◌, ◌<◌, ◌∙◌, ◌∷◌, ◌≡◌, ◌≤◌}
use Rattle.std.specs.List.{find}
use Rattle.std.specs.Map.{values_of}
use Rattle.std.proofs.Math.Nat.{eq-or-lt_of_le}
use Rattle.std.proofs.lemmas.Bool.{cases_lt}
use Rattle.std.proofs.lemmas.Map.Entries.{length-values_of}
use Rattle.image.specs.Private.Orders.{NeverFall}
use Rattle.image.proofs.Finding.{first_at, none_found, found_at}

-- the index of the first that is greatest among the addresses that are not above one
pub record Nearest (addresses : List ℕ) (a k : ℕ) : Type 0 where
  pub within : k < length addresses
  pub below : get_or addresses k 0 ≤ a
  pub greatest : (j : ℕ) → j < length addresses → get_or addresses j 0 ≤ a → get_or addresses j 0 ≤ get_or addresses k 0
  pub first : (j : ℕ) → j < k → get_or addresses j 0 ≤ a → get_or addresses j 0 < get_or addresses k 0

find-filter : {X : Type 0} (p q : X → Bool) (xs : List X) → find p (filter q xs) ≡ find (λ x. q x && p x) xs
find-filter p q [] = refl
find-filter {X} p q (x ∷ xs) =
    let P : Bool → Type 0 = λ t. find p (cond t (x ∷ filter q xs) (filter q xs)) ≡ cond (t && p x) (Some x) (find (λ x. q x && p x) xs) in
    let yes : P true = ap (cond (p x) (Some x)) (find-filter p q xs) in
    elim (q x) as P [ true ↦ yes | false ↦ find-filter p q xs ]

all_of_filter : {X : Type 0} (test q : X → Bool) (xs : List X)
    → ((j : ℕ) (d : X) → j < length xs → q (get_or xs j d) ≡ true → test (get_or xs j d) ≡ true) → list_all test (filter q xs) ≡ true
all_of_filter test q [] h = refl
all_of_filter {X} test q (x ∷ xs) h =
    let rest : list_all test (filter q xs) ≡ true = all_of_filter test q xs (λ j d l. h (suc j) d (omega arith)) in
    let P : Bool → Type 0 = λ t. q x ≡ t → list_all test (cond t (x ∷ filter q xs) (filter q xs)) ≡ true in
    let go : P (q x) = elim (q x) as P [ true ↦ λ e. rw (h 0 x (omega arith) e) rest | false ↦ λ e. rest ] in
    go refl

one_of_filter : {X : Type 0} (test q : X → Bool) (xs : List X) (k : ℕ) (d : X) → k < length xs → q (get_or xs k d) ≡ true
    → test (get_or xs k d) ≡ false → list_all test (filter q xs) ≡ false
one_of_filter test q [] k d l passes fails = absurd (omega arith)
one_of_filter test q (x ∷ xs) zero d l passes fails = rw (passes, fails) refl
one_of_filter {X} test q (x ∷ xs) (suc k) d l passes fails =
    let rest : list_all test (filter q xs) ≡ false = one_of_filter test q xs k d (omega arith) passes fails in
    let at_first : (t : Bool)
    → (t && list_all test (filter q xs)) ≡ false = λ t. elim t as
    (λ t. (t && list_all test (filter q xs)) ≡ false) [ true ↦ rest | false ↦ refl ] in
    elim (q x) as (λ t. list_all test (cond t (x ∷ filter q xs) (filter q xs)) ≡ false) [ true ↦ at_first (test x) | false ↦ rest ]

le_is : (a b : ℕ) → a ≤ b → nat_le a b ≡ true
le_is a b h = grind (arith, nat_tests)

le_is_not : (a b : ℕ) → b < a → nat_le a b ≡ false
le_is_not a b h = grind (arith, nat_tests)

le_tells : (a b : ℕ) → nat_le a b ≡ true → a ≤ b
le_tells a b e = grind (arith, nat_tests)

and_true : (s t : Bool) → s ≡ true → t ≡ true → (s && t) ≡ true
and_true s t p q = rw (p, q) refl

both_first : (s t : Bool) → (s && t) ≡ true → s ≡ true
both_first true t e = refl
both_first false t e = e

and_second : (s t : Bool) → t ≡ false → (s && t) ≡ false
and_second s t q = elim s as (λ s. (s && t) ≡ false) [ true ↦ q | false ↦ refl ]

and_first : (s t : Bool) → s ≡ false → (s && t) ≡ false
and_first s t p = rw p refl

address_at : (labels : List Label) (j : ℕ) (d : Label) → j < length labels → get_or (map place_of labels) j 0 ≡ place_of (get_or labels j d)
address_at labels j d h = get_or-map place_of labels j d 0 h

length-addresses : (labels : List Label) → length (map place_of labels) ≡ length labels
length-addresses [] = refl
length-addresses (l ∷ labels) = ap suc (length-addresses labels)

nothing : Label
nothing = ([], 0)

test_of : ℕ → List Label → Label → Bool
unfolding nothing
test_of a labels label = nat_le (place_of label) a && list_all (λ other. nat_le (place_of other) (place_of label)) (up_to a labels)

pub found_label : (labels : List Label) (a k : ℕ) → Nearest (map place_of labels) a k → first_greatest (up_to a labels) ≡ slice_get labels k
unfolding test_of
found_label labels a k n =
    let size = length-addresses labels in
    let within : k < length labels = (rw size at n.within) in
    let here = address_at labels k nothing within in
    let below : place_of (get_or labels k nothing) ≤ a = (rw here at n.below) in
    let all = all_of_filter (λ other. nat_le (place_of other) (place_of (get_or labels k nothing)))
    (λ label. nat_le (place_of label) a) labels (λ j d l passes.
    let lower : place_of (get_or labels j d) ≤ a = le_tells (place_of (get_or labels j d)) a passes in
    let there = address_at labels j d l in
    let h = n.greatest j (rw size l) (rw there lower) in
    le_is (place_of (get_or labels j d)) (place_of (get_or labels k nothing)) (omega arith)) in
    let passes : test_of a labels (get_or labels k nothing) ≡ true = and_true _ _
    (le_is (place_of (get_or labels k nothing)) a below) all in
    let before : (j : ℕ) → j < k → test_of a labels (get_or labels j nothing) ≡ false = λ j l.
    let inside : j < length labels = omega arith in
    let there = address_at labels j nothing inside in
    elim (cases_lt a (place_of (get_or labels j nothing))) as (λ c. test_of a labels (get_or labels j nothing) ≡ false) [
      | inl above ↦ and_first (nat_le (place_of (get_or labels j nothing)) a) _ (le_is_not (place_of (get_or labels j nothing)) a above)
      | inr lower ↦
          let h = n.first j l (rw there lower) in
          let less : place_of (get_or labels j nothing) < place_of (get_or labels k nothing) = omega arith in
          and_second (nat_le (place_of (get_or labels j nothing)) a) _
          (one_of_filter (λ other. nat_le (place_of other) (place_of (get_or labels j nothing)))
          (λ label. nat_le (place_of label) a) labels k nothing within (le_is (place_of (get_or labels k nothing)) a below)
          (le_is_not (place_of (get_or labels k nothing)) (place_of (get_or labels j nothing)) less))
    ] in
    find-filter (λ label. list_all (λ other. nat_le (place_of other) (place_of label)) (up_to a labels))
    (λ label. nat_le (place_of label) a) labels
    ∙ first_at (test_of a labels) labels k nothing within passes before
    ∙ sym (slice_get-get_or labels k nothing within)

pub no_label : (labels : List Label) (a : ℕ) → ((j : ℕ) → j < length (map place_of labels) → a < get_or (map place_of labels) j 0)
    → first_greatest (up_to a labels) ≡ None
unfolding test_of
no_label labels a above =
    find-filter (λ label. list_all (λ other. nat_le (place_of other) (place_of label)) (up_to a labels))
    (λ label. nat_le (place_of label) a) labels
    ∙ none_found (test_of a labels) labels (λ j d l.
    let there = address_at labels j d l in
    let h = above j (rw length-addresses l) in
    and_first (nat_le (place_of (get_or labels j d)) a) _ (le_is_not (place_of (get_or labels j d)) a (omega arith)))

addresses-labels : {Z : Type 0} (entries : List (String Z × ℕ)) → map place_of (labels_of entries) ≡ values_of entries
addresses-labels [] = refl
addresses-labels (e ∷ entries) = ap (λ l. e.1 ∷ l) (addresses-labels entries)

-- the same of a map's entries
pub found_entry : {Z : Type 0} (entries : List (String Z × ℕ)) (a k : ℕ) → Nearest (values_of entries) a k
    → slice_get (labels_of entries) k ≡ first_greatest (up_to a (labels_of entries))
found_entry entries a k n =
    let P : List ℕ → Type 0 = λ addresses. Nearest addresses a k in
    sym (found_label (labels_of entries) a k (subst P (sym (addresses-labels entries)) n))

pub no_entry : {Z : Type 0} (entries : List (String Z × ℕ)) (a : ℕ)
    → ((j : ℕ) → j < length (values_of entries) → a < get_or (values_of entries) j 0) → None ≡ first_greatest (up_to a (labels_of entries))
no_entry entries a above =
    let P : List ℕ → Type 0 = λ addresses. (j : ℕ) → j < length addresses → a < get_or addresses j 0 in
    sym (no_label (labels_of entries) a (subst P (sym (addresses-labels entries)) above))

-- what holds of entries holds of their addresses
pub values_within : {K : Type 0} (P : ℕ → Type 0) (entries : List (K × ℕ)) (low high : ℕ) → high ≤ length entries
    → AllWithin (λ e. P e.1) entries low high → (j : ℕ) → low ≤ j → j < high → P (get_or (values_of entries) j 0)
values_within P [] low high bound all j l h = absurd (omega arith)
values_within P (e ∷ entries) low high bound all j l h =
    let within : j < length (e ∷ entries) = omega arith in
    subst P (sym (get_or-map (λ x. x.1) (e ∷ entries) j e 0 within)) (all j e l h)

values_rise : {K : Type 0} (entries : List (K × ℕ)) (d : K × ℕ) → NeverFall (values_of entries) → (i j : ℕ) → i ≤ j → j < length entries
    → (get_or entries i d).1 ≤ (get_or entries j d).1
values_rise entries d rise i j h within =
    elim (eq-or-lt_of_le {n = i} {m = j} h) as (λ c. (get_or entries i d).1 ≤ (get_or entries j d).1) [
      | inl same ↦ rw same (omega arith)
      | inr less ↦
          let e = rise i j 0 less (rw (length-values_of entries) within) in
          let low = get_or-map (λ x. x.1) entries i d 0 (omega arith) in
          let high = get_or-map (λ x. x.1) entries j d 0 within in
          omega arith
    ]

lt_is : (a b : ℕ) → a < b → nat_lt a b ≡ true
lt_is a b h = grind (arith, nat_tests)

lt_tells : (a b : ℕ) → nat_lt a b ≡ true → a < b
lt_tells a b e = grind (arith, nat_tests)

le_tells_not : (a b : ℕ) → nat_le a b ≡ false → b < a
le_tells_not a b e = grind (arith, nat_tests)

lt_tells_not : (a b : ℕ) → nat_lt a b ≡ false → b ≤ a
lt_tells_not a b e = grind (arith, nat_tests)

-- addresses that never fall are tested alike
pub le_tested : {K : Type 0} (entries : List (K × ℕ)) (a : ℕ) (d : K × ℕ) → NeverFall (values_of entries) → (i j : ℕ) → i ≤ j
    → j < length entries → nat_le (get_or entries j d).1 a ≡ true → nat_le (get_or entries i d).1 a ≡ true
le_tested entries a d rise i j h within test =
    let e = values_rise entries d rise i j h within in
    let t : (get_or entries j d).1 ≤ a = le_tells (get_or entries j d).1 a test in
    le_is (get_or entries i d).1 a (omega arith)

pub lt_tested : {K : Type 0} (entries : List (K × ℕ)) (a : ℕ) (d : K × ℕ) → NeverFall (values_of entries) → (i j : ℕ) → i ≤ j
    → j < length entries → nat_lt (get_or entries j d).1 a ≡ true → nat_lt (get_or entries i d).1 a ≡ true
lt_tested entries a d rise i j h within test =
    let e = values_rise entries d rise i j h within in
    let t : (get_or entries j d).1 < a = lt_tells (get_or entries j d).1 a test in
    lt_is (get_or entries i d).1 a (omega arith)

greatest_of : (addresses : List ℕ) (a count : ℕ) → NeverFall addresses → count ≤ length addresses
    → ((j : ℕ) → count ≤ j → j < length addresses → a < get_or addresses j 0) → {g : ℕ} → get_or addresses (count - 1) 0 ≤ g → (j : ℕ)
    → j < length addresses → get_or addresses j 0 ≤ a → get_or addresses j 0 ≤ g
greatest_of addresses a count rise bound high {g} here j l h =
    elim (cases_lt j count) as (λ c. get_or addresses j 0 ≤ g) [
      | inl less ↦
          let last : j ≤ count - 1 = omega arith in
          elim (eq-or-lt_of_le {n = j} {m = count - 1} last) as (λ c. get_or addresses j 0 ≤ g) [
            | inl same ↦ rw same here
            | inr lower ↦ let e = rise j (count - 1) 0 lower (omega arith) in omega arith
          ]
      | inr more ↦ absurd (let e = high j more l in omega arith)
    ]

-- Two halvings: how many addresses are not above one, and where the greatest of these stands first.
pub halved : (addresses : List ℕ) (a count k : ℕ) → NeverFall addresses → 0 < count → count ≤ length addresses
    → ((j : ℕ) → j < count → get_or addresses j 0 ≤ a) → ((j : ℕ) → count ≤ j → j < length addresses → a < get_or addresses j 0)
    → k ≤ length addresses → ((j : ℕ) → j < k → get_or addresses j 0 < get_or addresses (count - 1) 0)
    → ((j : ℕ) → k ≤ j → j < length addresses → get_or addresses (count - 1) 0 ≤ get_or addresses j 0) → Nearest addresses a k
halved addresses a count k rise some bound low high room less more =
    let last : count - 1 < count = omega arith in
    let before : k ≤ count - 1 = elim (cases_lt (count - 1) k) as (λ c. k ≤ count - 1) [
      | inl after ↦ absurd (let h = less (count - 1) after in omega arith)
      | inr h ↦ h
    ] in
    let within : k < length addresses = omega arith in
    let here : get_or addresses (count - 1) 0 ≤ get_or addresses k 0 = more k (omega arith) within in
    record {
      within = within;
      below = low k (omega arith);
      greatest = λ j l h. greatest_of addresses a count rise bound high here j l h;
      first = λ j l h. let e = less j l in omega arith;
    }

-- the same of what two halvings of a map's entries answered
pub halved_to : {Z : Type 0} (entries : List (String Z × ℕ)) (a count g k : ℕ) → NeverFall (values_of entries) → (count ≡ 0 → ⊥)
    → count ≤ length entries → AllWithin (λ e. nat_le e.1 a ≡ true) entries 0 count
    → AllWithin (λ e. nat_le e.1 a ≡ false) entries count (length entries) → g ≡ get_or (values_of entries) (count - 1) 0
    → k ≤ length entries → AllWithin (λ e. nat_lt e.1 g ≡ true) entries 0 k
    → AllWithin (λ e. nat_lt e.1 g ≡ false) entries k (length entries)
    → slice_get (labels_of entries) k ≡ first_greatest (up_to a (labels_of entries))
halved_to entries a count g k rise some bound low high is room less more =
    let size = length-values_of entries in
    let all : length entries ≤ length entries = omega arith in
    let addresses = values_of entries in
    found_entry entries a k (halved addresses a count k rise (omega arith) (rw size bound)
    (λ j l. le_tells (get_or addresses j 0) a (values_within (λ v. nat_le v a ≡ true) entries 0 count bound low j (omega arith) l))
    (λ j l h. le_tells_not (get_or addresses j 0) a
    (values_within (λ v. nat_le v a ≡ false) entries count (length entries) all high j l (rw (← size) h)))
    (rw size room)
    (λ j l. rw (← is) (lt_tells (get_or addresses j 0) g (values_within (λ v. nat_lt v g ≡ true) entries 0 k room less j (omega arith) l)))
    (λ j l h. rw (← is) (lt_tells_not (get_or addresses j 0) g
    (values_within (λ v. nat_lt v g ≡ false) entries k (length entries) all more j l (rw (← size) h)))))

pub halved_in_vain : {Z : Type 0} (entries : List (String Z × ℕ)) (a count : ℕ) → count ≡ 0
    → AllWithin (λ e. nat_le e.1 a ≡ false) entries count (length entries) → None ≡ first_greatest (up_to a (labels_of entries))
halved_in_vain entries a count none high =
    let size = length-values_of entries in
    let all : length entries ≤ length entries = omega arith in
    no_entry entries a (λ j h. le_tells_not (get_or (values_of entries) j 0) a
    (values_within (λ v. nat_le v a ≡ false) entries count (length entries) all high j (omega arith) (rw (← size) h)))

-- What a look at the first addresses has found: nothing, where each is above; else an index and the address there.
abbrev pub Looked : List ℕ → ℕ → ℕ → Option (ℕ × ℕ) → Type 0
Looked addresses a count None = (j : ℕ) → j < count → a < get_or addresses j 0
Looked addresses a count (Some found) =
    (found.0 < count) × (found.1 ≡ get_or addresses found.0 0) × (found.1 ≤ a) ×
    ((j : ℕ) → j < count → get_or addresses j 0 ≤ a → get_or addresses j 0 ≤ found.1) ×
    ((j : ℕ) → j < found.0 → get_or addresses j 0 ≤ a → get_or addresses j 0 < found.1)

pub looked_to : {Z : Type 0} (entries : List (String Z × ℕ)) (a count k g : ℕ) (found : Option (ℕ × ℕ))
    → Looked (values_of entries) a count found → found ≡ Some (k, g) → count ≡ length entries
    → slice_get (labels_of entries) k ≡ first_greatest (up_to a (labels_of entries))
looked_to entries a count k g found looked e all =
    let P : Option (ℕ × ℕ) → Type 0 = λ o. Looked (values_of entries) a count o in
    let h : Looked (values_of entries) a count (Some (k, g)) = subst P e looked in
    let same : g ≡ get_or (values_of entries) k 0 = h.1 in
    let size : count ≡ length (values_of entries) = all ∙ sym (length-values_of entries) in
    found_entry entries a k (record {
      within = rw (← size) h.0;
      below = rw (← same) h.2;
      greatest = λ j l b. rw (← same) (h.3 j (rw size l) b);
      first = λ j l b. rw (← same) (h.4 j l b);
    })

pub looked_in_vain : {Z : Type 0} (entries : List (String Z × ℕ)) (a count : ℕ) (found : Option (ℕ × ℕ))
    → Looked (values_of entries) a count found → found ≡ None → count ≡ length entries → None ≡ first_greatest (up_to a (labels_of entries))
looked_in_vain entries a count found looked e all =
    let P : Option (ℕ × ℕ) → Type 0 = λ o. Looked (values_of entries) a count o in
    let h : Looked (values_of entries) a count None = subst P e looked in
    let size : count ≡ length (values_of entries) = all ∙ sym (length-values_of entries) in
    no_entry entries a (λ j l. h j (rw size l))

-- a label that is found is not above the address
pub found_below : (labels : List Label) (a : ℕ) (label : Label) → first_greatest (up_to a labels) ≡ Some label → place_of label ≤ a
found_below labels a label e =
    let f = found_at (λ label. nat_le (place_of label) a && list_all (λ other. nat_le (place_of other) (place_of label))
    (up_to a labels)) labels label
    (sym (find-filter (λ label. list_all (λ other. nat_le (place_of other) (place_of label)) (up_to a labels))
    (λ label. nat_le (place_of label) a) labels) ∙ e) in
    le_tells (place_of label) a
    (both_first (nat_le (place_of label) a) (list_all (λ other. nat_le (place_of other) (place_of label)) (up_to a labels)) f.passes)

-- what a map has at an index is a label at that index
pub label_of_entry : {Z : Type 0} (entries : List (String Z × ℕ)) (k : ℕ) (e : String Z × ℕ) → slice_get entries k ≡ Some e
    → slice_get (labels_of entries) k ≡ Some (string_bytes e.0, e.1)
label_of_entry entries k e there =
    slice_get-map (λ entry. (string_bytes entry.0, entry.1)) entries k ∙ ap (option_map (λ entry. (string_bytes entry.0, entry.1))) there

-- an address in the image goes by the label that is found
pub named : (table : Table) (a : ℕ) (label : Label) → first_greatest (up_to a table.labels) ≡ Some label → first_address ≤ a → a < table.end
    → label_at table a ≡ Some (label.0, a - place_of label)
named table a label e low high =
    let inside : in_image table a ≡ true = and_true (nat_le first_address a) (nat_lt a table.end) (le_is first_address a low)
    (lt_is a table.end high) in
    rw (inside, e) refl
