-- What is written in a form is taken for what it was, and is plain JSON.
use Rattle.message_parts.proofs.Common.{[], all_found, and_parts, ap, are_ascii, AreTexts, arith, as_array, as_i64, as_number, as_u64, Bool, Data, depth, either, Equal, false, field, Fields, first_named, fixed, Form, found_if, found_or_empty, get, get_member, Greater, has_float, HasSmallNumbers, if_any, IfSome, if◌then◌else◌, inl, inr, int_le, is_in_either, is_in_if, is_signed_word, is_word, IsUtf8-are_ascii, item, Items, items_depth, items_have_float, items_of, ItemsHaveSmallNumbers, left_or_right, Less, List, list, lt-ltb, ltb-true, made_of, member, member_if, Members, members_depth, members_either, members_have_float, MembersHaveSmallNumbers, nat_lt, neg_ℤ, negsuc, no_items, no_members, None, none, number, object, object_of, of_integer, one_of, Option, option_and_then, option_map, optional, Ordering, pos, refl, signed, Some, suc, sym, text, texts_either, texts_if, texts_of, true, truth, unless_empty, whole, within_word, ℕ, ℤ, ◌&&◌, ◌++◌, ◌<◌, ◌^◌, ◌∙◌, ◌∷◌, ◌≡◌, ◌≤◌, ◌⊎◌}
use Rattle.std.proofs.lemmas.Bool.Decides.{nat_tests}
use Rattle.std.specs.List.{list_all}
use Rattle.std.specs.Cmp.Lexicographic.{slice_cmp}
use Rattle.std.specs.Ordering.{nat_cmp, is_lt, match_ordering, ordering_reverse}
use Rattle.std.proofs.lemmas.Cmp.{nat_list_cmp_total}
use Rattle.protocol.specs.Properties.{◌>>=◌, integer, within_i32}
use Rattle.message_parts.specs.Order.{begins_above, is_ordered, are_items_ordered, are_members_ordered}
use Rattle.message_parts.proofs.Texts.{IsPlain, AreItemsPlain, AreMembersPlain, HasSmallNumbers-IsPlain}

-- ---- what holds of every form here, whose values nest so deep at most

pub record Lawful (n : ℕ) {A : Type 0} (form : Form A) : Type 0 where
  pub back : (x : A) → form.is_in x ≡ true → form.found (form.value x) ≡ Some x
  pub kept : (d : Data) → IfSome (form.found d) (λ x. form.is_in x ≡ true)
  pub shallow : (x : A) → depth (form.value x) ≤ n
  pub no_float : (x : A) → has_float (form.value x) ≡ false
  pub ordered : (x : A) → is_ordered (form.value x) ≡ true
  pub small : (x : A) → form.is_in x ≡ true → HasSmallNumbers (form.value x)
  pub plain : (x : A) → form.is_in x ≡ true → AreTexts (form.texts x) → IsPlain (form.value x)

-- ---- single values

if_is : {A : Type 0} (b : Bool) (x : A) (P : A → Type 0) → (b ≡ true → P x) → IfSome (if b then Some x else None) P
if_is true x P h = h refl
if_is false x P h = tt

pub then_is : {A B : Type 0} (P : B → Type 0) (o : Option A) (f : A → Option B) → ((x : A) → IfSome (f x) P)
    → IfSome (option_and_then f o) P
then_is P None f h = tt
then_is P (Some x) f h = h x

any : {A : Type 0} (o : Option A) → IfSome o (λ _. true ≡ true)
any None = tt
any (Some x) = refl

pub lawful_whole : {n : ℕ} → Lawful n whole
lawful_whole {n} = record {
  back = λ x h. rw h refl;
  kept = λ d. then_is _ (as_number d >>= as_u64) within_word (λ x. if_is (is_word x) x _ (λ h. h));
  shallow = λ x. omega arith;
  no_float = λ x. refl;
  ordered = λ x. refl;
  small = λ x h. let few : x < 2 ^ 32 = ltb-true _ _ h in omega (arith, few);
  plain = λ x h _. let few : x < 2 ^ 32 = ltb-true _ _ h in omega (arith, few);
}

small_signed : (n : ℕ) → is_signed_word (pos n) ≡ true → n < 2 ^ 31
small_signed n h = let p = and_parts (int_le (neg_ℤ (pos 2147483648)) (pos n)) _ h in grind (arith, nat_tests)

small_negative : (n : ℕ) → is_signed_word (negsuc n) ≡ true → n < 2 ^ 31
small_negative n h = let p = and_parts (int_le (neg_ℤ (pos 2147483648)) (negsuc n)) _ h in grind (arith, nat_tests)

back_signed : (z : ℤ) → is_signed_word z ≡ true → integer (number (of_integer z)) ≡ Some z
back_signed (pos n) h =
    let small = small_signed n h in let less : nat_lt n (2 ^ 63) ≡ true = lt-ltb _ _ (omega (arith, small)) in rw (less, h) refl
back_signed (negsuc n) h = rw h refl

no_float_signed : (z : ℤ) → has_float (number (of_integer z)) ≡ false
no_float_signed (pos n) = refl
no_float_signed (negsuc n) = refl

plain_signed : (z : ℤ) → is_signed_word z ≡ true → IsPlain (number (of_integer z))
plain_signed (pos n) h = let small = small_signed n h in omega (arith, small)
plain_signed (negsuc n) h = let small = small_negative n h in omega (arith, small)

few_signed : (z : ℤ) → is_signed_word z ≡ true → HasSmallNumbers (number (of_integer z))
few_signed (pos n) h = plain_signed (pos n) h
few_signed (negsuc n) h = plain_signed (negsuc n) h

pub lawful_signed : {n : ℕ} → Lawful n signed
lawful_signed {n} = record {
  back = back_signed;
  kept = λ d. then_is _ (as_number d >>= as_i64) within_i32 (λ z. if_is (is_signed_word z) z _ (λ h. h));
  shallow = λ z. omega arith;
  no_float = no_float_signed;
  ordered = λ z. refl;
  small = λ z h. few_signed z h;
  plain = λ z h _. plain_signed z h;
}

pub lawful_truth : {n : ℕ} → Lawful n truth
lawful_truth {n} = record {
  back = λ x h. refl;
  kept = λ d. any (truth.found d);
  shallow = λ x. omega arith;
  no_float = λ x. refl;
  ordered = λ x. refl;
  small = λ x h. tt;
  plain = λ x h _. tt;
}

pub lawful_text : {n : ℕ} → Lawful n text
lawful_text {n} = record {
  back = λ x h. refl;
  kept = λ d. any (text.found d);
  shallow = λ x. omega arith;
  no_float = λ x. refl;
  ordered = λ x. refl;
  small = λ x h. tt;
  plain = λ x h t. t.0;
}

pub lawful_one_of : {n : ℕ} {A : Type 0} (name_of : A → List ℕ) (xs : List A) → ((x : A) → first_named name_of xs (name_of x) ≡ Some x)
    → ((x : A) → are_ascii (name_of x) ≡ true) → Lawful n (one_of name_of xs)
lawful_one_of {n} name_of xs again ascii = record {
  back = λ x h. again x;
  kept = λ d. any ((one_of name_of xs).found d);
  shallow = λ x. omega arith;
  no_float = λ x. refl;
  ordered = λ x. refl;
  small = λ x h. tt;
  plain = λ x h t. IsUtf8-are_ascii (name_of x) (ascii x);
}

-- ---- lists

back_items : {n : ℕ} {A : Type 0} (form : Form A) → Lawful n form → (xs : List A) → list_all form.is_in xs ≡ true
    → all_found form.found (items_of form.value xs) ≡ Some xs
back_items form h [] e = refl
back_items form h (x ∷ xs) e = let p = and_parts _ _ e in rw (h.back x p.0, back_items form h xs p.1) refl

kept_items : {n : ℕ} {A : Type 0} (form : Form A) → Lawful n form → (ds : Items)
    → IfSome (all_found form.found ds) (λ xs. list_all form.is_in xs ≡ true)
kept_items form h no_items = refl
kept_items {A = A} form h (item d ds) = first (form.found d) (h.kept d) (all_found form.found ds) (kept_items form h ds) where
  first : (o : Option A) → IfSome o (λ x. form.is_in x ≡ true) → (os : Option (List A)) → IfSome os (λ xs. list_all form.is_in xs ≡ true)
      → IfSome (o >>= (λ x. os >>= (λ xs. Some (x ∷ xs)))) (λ xs. list_all form.is_in xs ≡ true)
  first None h os k = tt
  first (Some x) h None k = tt
  first (Some x) h (Some xs) k = rw (h, k) refl

shallow_items : {n : ℕ} {A : Type 0} (form : Form A) → Lawful n form → (xs : List A) → items_depth (items_of form.value xs) ≤ n
shallow_items form h [] = omega arith
shallow_items {n} form h (x ∷ xs) =
    let first : depth (form.value x) ≤ n = h.shallow x in let rest : items_depth (items_of form.value xs) ≤ n = shallow_items form h xs in
    omega (arith, first, rest)

no_float_items : {n : ℕ} {A : Type 0} (form : Form A) → Lawful n form → (xs : List A) → items_have_float (items_of form.value xs) ≡ false
no_float_items form h [] = refl
no_float_items form h (x ∷ xs) = rw (h.no_float x, no_float_items form h xs) refl

ordered_items : {n : ℕ} {A : Type 0} (form : Form A) → Lawful n form → (xs : List A) → are_items_ordered (items_of form.value xs) ≡ true
ordered_items form h [] = refl
ordered_items form h (x ∷ xs) = rw (h.ordered x, ordered_items form h xs) refl

small_items : {n : ℕ} {A : Type 0} (form : Form A) → Lawful n form → (xs : List A) → list_all form.is_in xs ≡ true
    → ItemsHaveSmallNumbers (items_of form.value xs)
small_items form h [] e = tt
small_items form h (x ∷ xs) e = let p = and_parts _ _ e in (h.small x p.0, small_items form h xs p.1)

texts_parts : (ss ts : List (List ℕ)) → AreTexts (ss ++ ts) → AreTexts ss × AreTexts ts
texts_parts [] ts h = (tt, h)
texts_parts (s ∷ ss) ts h = let p = texts_parts ss ts h.1 in ((h.0, p.0), p.1)

plain_items : {n : ℕ} {A : Type 0} (form : Form A) → Lawful n form → (xs : List A) → list_all form.is_in xs ≡ true
    → AreTexts (texts_of form.texts xs) → AreItemsPlain (items_of form.value xs)
plain_items form h [] e t = tt
plain_items form h (x ∷ xs) e t =
    let p = and_parts _ _ e in
    let q = texts_parts (form.texts x) (texts_of form.texts xs) t in
    (h.plain x p.0 q.0, plain_items form h xs p.1 q.1)

pub lawful_list : {n : ℕ} {A : Type 0} {form : Form A} → Lawful n form → Lawful (suc n) (list form)
lawful_list {n} {A} {form} h = record {
  back = λ xs e. back_items form h xs e;
  kept = λ d. then_is _ (as_array d) (all_found form.found) (λ ds. kept_items form h ds);
  shallow = λ xs. let most = shallow_items form h xs in omega (arith, most);
  no_float = λ xs. no_float_items form h xs;
  ordered = λ xs. ordered_items form h xs;
  small = λ xs e. small_items form h xs e;
  plain = λ xs e t. plain_items form h xs e t;
}

-- ---- objects

-- the first members, and then the others
abbrev joined : Members → Members → Members
joined no_members ns = ns
joined (member k d ms) ns = member k d (joined ms ns)

joined-joined : (ms : Members) (k : List ℕ) (d : Data) (ns : Members)
    → joined (joined ms (member k d no_members)) ns ≡ joined ms (member k d ns)
joined-joined no_members k d ns = refl
joined-joined (member l e ms) k d ns = ap (member l e) (joined-joined ms k d ns)

-- the member of this name is looked for behind another
abbrev passes : List ℕ → List ℕ → Bool
passes k l = match_ordering (slice_cmp nat_cmp k l) true false true

abbrev passes_all : List ℕ → Members → Bool
passes_all k no_members = true
passes_all k (member l e ms) = passes k l && passes_all k ms

-- a name stands before others, and is none of them
abbrev pub is_first : List ℕ → List (List ℕ) → Bool
is_first k [] = true
is_first k (l ∷ ls) = is_lt (slice_cmp nat_cmp k l) && (passes l k && (passes k l && is_first k ls))

passed : (o : Ordering) (found : Option Data) (e : Data) → match_ordering o true false true ≡ true
    → match_ordering o found (Some e) found ≡ found
passed Less found e h = refl
passed Equal found e h = absurd cc
passed Greater found e h = refl

get-joined : (k : List ℕ) (ms ns : Members) → passes_all k ms ≡ true → get_member k (joined ms ns) ≡ get_member k ns
get-joined k no_members ns h = refl
get-joined k (member l e ms) ns h =
    let p = and_parts _ _ h in passed (slice_cmp nat_cmp k l) _ e p.0 ∙ get-joined k ms ns p.1

passes-joined : (k l : List ℕ) (d : Data) (ms : Members) → passes_all k ms ≡ true → passes k l ≡ true
    → passes_all k (joined ms (member l d no_members)) ≡ true
passes-joined k l d no_members h p = ap (λ b. b && true) p
passes-joined k l d (member j e ms) h p =
    let q = and_parts (passes k j) (passes_all k ms) h in
    let rest : passes_all k (joined ms (member l d no_members)) ≡ true = passes-joined k l d ms q.1 p in rw (q.0, rest) refl

-- none of the names is that of one of the members
abbrev AreNew : List (List ℕ) → Members → Type 0
AreNew [] ms = Unit {0}
AreNew (k ∷ ks) ms = (passes_all k ms ≡ true) × AreNew ks ms

AreNew-none : (ks : List (List ℕ)) → AreNew ks no_members
AreNew-none [] = tt
AreNew-none (k ∷ ks) = (refl, AreNew-none ks)

AreNew-joined : (k : List ℕ) (d : Data) (ks : List (List ℕ)) (ms : Members) → is_first k ks ≡ true → AreNew ks ms
    → AreNew ks (joined ms (member k d no_members))
AreNew-joined k d [] ms e h = tt
AreNew-joined k d (l ∷ ls) ms e h =
    let p = and_parts _ _ e in
    let q = and_parts _ _ p.1 in
    let r = and_parts _ _ q.1 in
    (passes-joined l k d ms h.0 q.0, AreNew-joined k d ls ms r.1 h.1)

self_equal : (o : Ordering) → o ≡ ordering_reverse o → o ≡ Equal
self_equal Less e = absurd cc
self_equal Equal e = refl
self_equal Greater e = absurd cc

get_itself : (k : List ℕ) (d : Data) (ms : Members) → get_member k (member k d ms) ≡ Some d
get_itself k d ms = rw (self_equal (slice_cmp nat_cmp k k) (nat_list_cmp_total.antisymm k k)) refl

-- what holds of the members of every object here
pub record LawfulFields (n : ℕ) {A : Type 0} (fields : Fields A) : Type 0 where
  pub back : (x : A) (before : Members) → fields.is_in x ≡ true → AreNew fields.names before
      → fields.found (object (joined before (fields.members x))) ≡ Some x
  pub absent : (k : List ℕ) (x : A) → is_first k fields.names ≡ true → get_member k (fields.members x) ≡ None
  pub kept : (d : Data) → IfSome (fields.found d) (λ x. fields.is_in x ≡ true)
  pub shallow : (x : A) → members_depth (fields.members x) ≤ n
  pub no_float : (x : A) → members_have_float (fields.members x) ≡ false
  pub above : (k : List ℕ) (x : A) → is_first k fields.names ≡ true → begins_above k (fields.members x) ≡ true
  pub ordered : (x : A) → are_members_ordered (fields.members x) ≡ true
  pub small : (x : A) → fields.is_in x ≡ true → MembersHaveSmallNumbers (fields.members x)
  pub plain : (x : A) → fields.is_in x ≡ true → AreTexts (fields.texts x) → AreMembersPlain (fields.members x)

pub lawful_none : {n : ℕ} → LawfulFields n none
lawful_none {n} = record {
  back = λ x before e new. refl;
  absent = λ k x e. refl;
  kept = λ d. refl;
  shallow = λ x. omega arith;
  no_float = λ x. refl;
  above = λ k x e. refl;
  ordered = λ x. refl;
  small = λ x e. tt;
  plain = λ x e t. tt;
}

-- the two parts of what was found
abbrev paired : {A B : Type 0} → Option A → Option B → Option (A × B)
paired o os = o >>= (λ x. os >>= (λ xs. Some (x, xs)))

both : {A B : Type 0} (P : A → Bool) (Q : B → Bool) (o : Option A) (os : Option B) → IfSome o (λ x. P x ≡ true)
    → IfSome os (λ x. Q x ≡ true) → IfSome (paired o os) (λ p. P p.0 && Q p.1 ≡ true)
both P Q None os h k = tt
both P Q (Some x) None h k = tt
both P Q (Some x) (Some xs) h k = rw (h, k) refl

-- what it means to stand before others
record First (k l : List ℕ) (ls : List (List ℕ)) : Type 0 where
  less : is_lt (slice_cmp nat_cmp k l) ≡ true
  other : passes l k ≡ true
  next : passes k l ≡ true
  rest : is_first k ls ≡ true

first_parts : (k l : List ℕ) (ls : List (List ℕ)) → is_first k (l ∷ ls) ≡ true → First k l ls
first_parts k l ls e =
    let p = and_parts (is_lt (slice_cmp nat_cmp k l)) _ e in
    let q = and_parts (passes l k) _ p.1 in
    let r = and_parts (passes k l) _ q.1 in
    record { less = p.0; other = q.0; next = r.0; rest = r.1 }

get-next : (k l : List ℕ) (d : Data) (ms : Members) → passes k l ≡ true → get_member k (member l d ms) ≡ get_member k ms
get-next k l d ms h = passed (slice_cmp nat_cmp k l) _ d h

-- a member, and then others
pub lawful_field : {n : ℕ} {A B : Type 0} {form : Form A} {rest : Fields B} {name : List ℕ} → is_first name rest.names ≡ true
    → are_ascii name ≡ true → Lawful n form → LawfulFields n rest → LawfulFields n (field name form rest)
lawful_field {n} {A} {B} {form} {rest} {name} first ascii h k = record {
  back = λ x before e new.
      let p = and_parts (form.is_in x.0) (rest.is_in x.1) e in
      let here : get_member name (joined before (member name (form.value x.0) (rest.members x.1))) ≡ Some
      (form.value x.0) = get-joined name before _ new.0 ∙ get_itself name (form.value x.0) (rest.members x.1) in
      let later : rest.found (object (joined before (member name (form.value x.0) (rest.members x.1))))
      ≡ Some x.1 = back_later form rest name x k before p.1 (AreNew-joined name (form.value x.0) rest.names before first new.1) in
      rw (here, h.back x.0 p.0, later) refl;
  absent =
      λ l x e. let f = first_parts l name rest.names e in get-next l name (form.value x.0) (rest.members x.1) f.next
      ∙ k.absent l x.1 f.rest;
  kept = λ d. both form.is_in rest.is_in (get name d >>= form.found) (rest.found d) (then_is _ (get name d) form.found h.kept) (k.kept d);
  shallow =
      λ x. let one : depth (form.value x.0) ≤ n = h.shallow x.0 in let others : members_depth (rest.members x.1) ≤ n = k.shallow x.1 in
      omega (arith, one, others);
  no_float = λ x. rw (h.no_float x.0, k.no_float x.1) refl;
  above = λ l x e. let f = first_parts l name rest.names e in f.less;
  ordered = λ x. rw (k.above name x.1 first, h.ordered x.0, k.ordered x.1) refl;
  small = λ x e. let p = and_parts (form.is_in x.0) (rest.is_in x.1) e in (h.small x.0 p.0, k.small x.1 p.1);
  plain = λ x e t.
      let p = and_parts (form.is_in x.0) (rest.is_in x.1) e in
      let q = texts_parts (form.texts x.0) (rest.texts x.1) t in
      (IsUtf8-are_ascii name ascii, h.plain x.0 p.0 q.0, k.plain x.1 p.1 q.1);
} where
  back_later : (form : Form A) (rest : Fields B) (name : List ℕ) (x : A × B) → LawfulFields n rest → (before : Members)
      → rest.is_in x.1 ≡ true → AreNew rest.names (joined before (member name (form.value x.0) no_members))
      → rest.found (object (joined before (member name (form.value x.0) (rest.members x.1)))) ≡ Some x.1
  back_later form rest name x k before e new =
      ap (λ ms. rest.found (object ms)) (sym (joined-joined before name (form.value x.0) (rest.members x.1)))
      ∙ k.back x.1 (joined before (member name (form.value x.0) no_members)) e new

-- a member that is the same in each, and then others
pub lawful_fixed : {n : ℕ} {B : Type 0} {rest : Fields B} {name : List ℕ} {value : Data} → is_first name rest.names ≡ true
    → are_ascii name ≡ true → depth value ≤ n → has_float value ≡ false → is_ordered value ≡ true → IsPlain value → LawfulFields n rest
    → LawfulFields n (fixed name value rest)
lawful_fixed {n} {B} {rest} {name} {value} first ascii shallow no_float ordered plain k = record {
  back =
      λ x before e new. ap (λ ms. rest.found (object ms)) (sym (joined-joined before name value (rest.members x)))
      ∙ k.back x (joined before (member name value no_members)) e (AreNew-joined name value rest.names before first new.1);
  absent = λ l x e. let f = first_parts l name rest.names e in get-next l name value (rest.members x) f.next ∙ k.absent l x f.rest;
  kept = λ d. k.kept d;
  shallow = λ x. let others : members_depth (rest.members x) ≤ n = k.shallow x in omega (arith, shallow, others);
  no_float = λ x. rw (no_float, k.no_float x) refl;
  above = λ l x e. let f = first_parts l name rest.names e in f.less;
  ordered = λ x. rw (k.above name x first, ordered, k.ordered x) refl;
  small = λ x e. (HasSmallNumbers-IsPlain value plain, k.small x e);
  plain = λ x e t. (IsUtf8-are_ascii name ascii, plain, k.plain x e t);
}

-- a member that may be absent, and then others
back_if : {n : ℕ} {A B : Type 0} (form : Form A) (rest : Fields B) (name : List ℕ) → is_first name rest.names ≡ true → Lawful n form
    → LawfulFields n rest → (x : Option A) (xs : B) (before : Members) → (optional name form rest).is_in (x, xs) ≡ true
    → AreNew (name ∷ rest.names) before
    → (optional name form rest).found (object (joined before ((optional name form rest).members (x, xs)))) ≡ Some (x, xs)
back_if form rest name first h k None xs before e new =
    let gone : get_member name (joined before (rest.members xs)) ≡ None = get-joined name before (rest.members xs) new.0
    ∙ k.absent name xs first in
    rw (gone, k.back xs before e new.1) refl
back_if form rest name first h k (Some x) xs before e new =
    let p = and_parts (form.is_in x) (rest.is_in xs) e in
    let here : get_member name (joined before (member name (form.value x) (rest.members xs))) ≡ Some
    (form.value x) = get-joined name before _ new.0 ∙ get_itself name (form.value x) (rest.members xs) in
    let later : rest.found (object (joined before (member name (form.value x) (rest.members xs)))) ≡ Some xs =
    ap (λ ms. rest.found (object ms)) (sym (joined-joined before name (form.value x) (rest.members xs)))
    ∙ k.back xs (joined before (member name (form.value x) no_members)) p.1
    (AreNew-joined name (form.value x) rest.names before first new.1) in
    rw (here, h.back x p.0, later) refl

kept_if_there : {n : ℕ} {A : Type 0} (form : Form A) → Lawful n form → (o : Option Data)
    → IfSome (found_if form.found o) (λ x. is_in_if form.is_in x ≡ true)
kept_if_there form h None = refl
kept_if_there {A = A} form h (Some d) = some (form.found d) (h.kept d) where
  some : (o : Option A) → IfSome o (λ x. form.is_in x ≡ true) → IfSome (option_map (λ x. Some x) o) (λ x. is_in_if form.is_in x ≡ true)
  some None h = tt
  some (Some x) h = h

absent_if : {A : Type 0} (l name : List ℕ) (value : A → Data) (x : Option A) (ms : Members) → passes l name ≡ true
    → get_member l (member_if name value x ms) ≡ get_member l ms
absent_if l name value None ms h = refl
absent_if l name value (Some x) ms h = get-next l name (value x) ms h

shallow_if : {n : ℕ} {A : Type 0} (form : Form A) (name : List ℕ) → Lawful n form → (x : Option A) (ms : Members) → members_depth ms ≤ n
    → members_depth (member_if name form.value x ms) ≤ n
shallow_if form name h None ms e = e
shallow_if {n} form name h (Some x) ms e = let one : depth (form.value x) ≤ n = h.shallow x in omega (arith, one, e)

no_float_if : {n : ℕ} {A : Type 0} (form : Form A) (name : List ℕ) → Lawful n form → (x : Option A) (ms : Members)
    → members_have_float ms ≡ false → members_have_float (member_if name form.value x ms) ≡ false
no_float_if form name h None ms e = e
no_float_if form name h (Some x) ms e = rw (h.no_float x, e) refl

above_if : {A : Type 0} (l name : List ℕ) (value : A → Data) (x : Option A) (ms : Members) → is_lt (slice_cmp nat_cmp l name) ≡ true
    → begins_above l ms ≡ true → begins_above l (member_if name value x ms) ≡ true
above_if l name value None ms less above = above
above_if l name value (Some x) ms less above = less

ordered_if : {n : ℕ} {A : Type 0} (form : Form A) (name : List ℕ) → Lawful n form → (x : Option A) (ms : Members)
    → begins_above name ms ≡ true → are_members_ordered ms ≡ true → are_members_ordered (member_if name form.value x ms) ≡ true
ordered_if form name h None ms above e = e
ordered_if form name h (Some x) ms above e = rw (above, h.ordered x, e) refl

small_if : {n : ℕ} {A : Type 0} (form : Form A) (name : List ℕ) → Lawful n form → (x : Option A) (ms : Members)
    → is_in_if form.is_in x ≡ true → MembersHaveSmallNumbers ms → MembersHaveSmallNumbers (member_if name form.value x ms)
small_if form name h None ms e k = k
small_if form name h (Some x) ms e k = (h.small x e, k)

plain_if : {n : ℕ} {A : Type 0} (form : Form A) (name : List ℕ) → are_ascii name ≡ true → Lawful n form → (x : Option A) (ms : Members)
    → is_in_if form.is_in x ≡ true → AreTexts (texts_if form.texts x) → AreMembersPlain ms
    → AreMembersPlain (member_if name form.value x ms)
plain_if form name ascii h None ms e t k = k
plain_if form name ascii h (Some x) ms e t k = (IsUtf8-are_ascii name ascii, h.plain x e t, k)

pub lawful_optional : {n : ℕ} {A B : Type 0} {form : Form A} {rest : Fields B} {name : List ℕ} → is_first name rest.names ≡ true
    → are_ascii name ≡ true → Lawful n form → LawfulFields n rest → LawfulFields n (optional name form rest)
lawful_optional {n} {A} {B} {form} {rest} {name} first ascii h k = record {
  back = λ x before e new. back_if form rest name first h k x.0 x.1 before e new;
  absent =
      λ l x e. let f = first_parts l name rest.names e in absent_if l name form.value x.0 (rest.members x.1) f.next ∙ k.absent l x.1 f.rest;
  kept =
      λ d. both (is_in_if form.is_in) rest.is_in (found_if form.found (get name d)) (rest.found d) (kept_if_there form h (get name d))
      (k.kept d);
  shallow = λ x. shallow_if form name h x.0 (rest.members x.1) (k.shallow x.1);
  no_float = λ x. no_float_if form name h x.0 (rest.members x.1) (k.no_float x.1);
  above =
      λ l x e. let f = first_parts l name rest.names e in above_if l name form.value x.0 (rest.members x.1) f.less (k.above l x.1 f.rest);
  ordered = λ x. ordered_if form name h x.0 (rest.members x.1) (k.above name x.1 first) (k.ordered x.1);
  small =
      λ x e. let p = and_parts (is_in_if form.is_in x.0) (rest.is_in x.1) e in
      small_if form name h x.0 (rest.members x.1) p.0 (k.small x.1 p.1);
  plain = λ x e t.
      let p = and_parts (is_in_if form.is_in x.0) (rest.is_in x.1) e in
      let q = texts_parts (texts_if form.texts x.0) (rest.texts x.1) t in
      plain_if form name ascii h x.0 (rest.members x.1) p.0 q.0 (k.plain x.1 p.1 q.1);
}

-- a member that is a list, and absent where that is empty, and then others
back_unless_empty : {n : ℕ} {A B : Type 0} (form : Form A) (rest : Fields B) (name : List ℕ) → is_first name rest.names ≡ true
    → Lawful n (list form) → LawfulFields n rest → (xs : List A) (ys : B) (before : Members)
    → (unless_empty name form rest).is_in (xs, ys) ≡ true
    → AreNew (name ∷ rest.names) before
    → (unless_empty name form rest).found (object (joined before ((unless_empty name form rest).members (xs, ys)))) ≡ Some (xs, ys)
back_unless_empty form rest name first h k [] ys before e new =
    let gone : get_member name (joined before (rest.members ys)) ≡ None = get-joined name before (rest.members ys) new.0
    ∙ k.absent name ys first in
    rw (gone, k.back ys before e new.1) refl
back_unless_empty form rest name first h k (x ∷ xs) ys before e new =
    let p = and_parts ((list form).is_in (x ∷ xs)) (rest.is_in ys) e in
    let value = (list form).value (x ∷ xs) in
    let here : get_member name (joined before (member name value (rest.members ys))) ≡ Some value = get-joined name before _ new.0
    ∙ get_itself name value (rest.members ys) in
    let later : rest.found (object (joined before (member name value (rest.members ys)))) ≡ Some ys =
    ap (λ ms. rest.found (object ms)) (sym (joined-joined before name value (rest.members ys)))
    ∙ k.back ys (joined before (member name value no_members)) p.1 (AreNew-joined name value rest.names before first new.1) in
    rw (here, h.back (x ∷ xs) p.0, later) refl

kept_or_empty : {n : ℕ} {A : Type 0} (form : Form A) → Lawful n (list form) → (o : Option Data)
    → IfSome (found_or_empty (list form).found o) (λ xs. (list form).is_in xs ≡ true)
kept_or_empty form h None = refl
kept_or_empty form h (Some d) = h.kept d

small_unless_empty : {n : ℕ} {A : Type 0} (form : Form A) (name : List ℕ) → Lawful n (list form) → (xs : List A) (ms : Members)
    → (list form).is_in xs ≡ true → MembersHaveSmallNumbers ms → MembersHaveSmallNumbers (member_if name (list form).value (if_any xs) ms)
small_unless_empty form name h [] ms e k = k
small_unless_empty form name h (x ∷ xs) ms e k = (h.small (x ∷ xs) e, k)

plain_unless_empty : {n : ℕ} {A : Type 0} (form : Form A) (name : List ℕ) → are_ascii name ≡ true → Lawful n (list form)
    → (xs : List A) (ms : Members) → (list form).is_in xs ≡ true → AreTexts ((list form).texts xs) → AreMembersPlain ms
    → AreMembersPlain (member_if name (list form).value (if_any xs) ms)
plain_unless_empty form name ascii h [] ms e t k = k
plain_unless_empty form name ascii h (x ∷ xs) ms e t k = (IsUtf8-are_ascii name ascii, h.plain (x ∷ xs) e t, k)

pub lawful_unless_empty : {n : ℕ} {A B : Type 0} (form : Form A) {rest : Fields B} {name : List ℕ} → is_first name rest.names ≡ true
    → are_ascii name ≡ true → Lawful n (list form) → LawfulFields n rest → LawfulFields n (unless_empty name form rest)
lawful_unless_empty {n} {A} {B} form {rest} {name} first ascii h k = record {
  back = λ x before e new. back_unless_empty form rest name first h k x.0 x.1 before e new;
  absent =
      λ l x e. let f = first_parts l name rest.names e in absent_if l name (list form).value (if_any x.0) (rest.members x.1) f.next
      ∙ k.absent l x.1 f.rest;
  kept =
      λ d. both (list form).is_in rest.is_in (found_or_empty (list form).found (get name d)) (rest.found d)
      (kept_or_empty form h (get name d)) (k.kept d);
  shallow = λ x. shallow_if (list form) name h (if_any x.0) (rest.members x.1) (k.shallow x.1);
  no_float = λ x. no_float_if (list form) name h (if_any x.0) (rest.members x.1) (k.no_float x.1);
  above =
      λ l x e. let f = first_parts l name rest.names e in
      above_if l name (list form).value (if_any x.0) (rest.members x.1) f.less (k.above l x.1 f.rest);
  ordered = λ x. ordered_if (list form) name h (if_any x.0) (rest.members x.1) (k.above name x.1 first) (k.ordered x.1);
  small =
      λ x e. let p = and_parts ((list form).is_in x.0) (rest.is_in x.1) e in
      small_unless_empty form name h x.0 (rest.members x.1) p.0 (k.small x.1 p.1);
  plain = λ x e t.
      let p = and_parts ((list form).is_in x.0) (rest.is_in x.1) e in
      let q = texts_parts ((list form).texts x.0) (rest.texts x.1) t in
      plain_unless_empty form name ascii h x.0 (rest.members x.1) p.0 q.0 (k.plain x.1 p.1 q.1);
}

-- the object of these members
pub lawful_object : {n : ℕ} {A : Type 0} {fields : Fields A} → LawfulFields n fields → Lawful (suc n) (object_of fields)
lawful_object {n} {A} {fields} k = record {
  back = λ x e. k.back x no_members e (AreNew-none fields.names);
  kept = λ d. k.kept d;
  shallow = λ x. let others : members_depth (fields.members x) ≤ n = k.shallow x in omega (arith, others);
  no_float = λ x. k.no_float x;
  ordered = λ x. k.ordered x;
  small = λ x e. k.small x e;
  plain = λ x e t. k.plain x e t;
}

-- one of two kinds of objects
pub lawful_either : {n : ℕ} {A B : Type 0} {left : Fields A} {right : Fields B} (is_left : Data → Option Bool)
    → ((x : A) → is_left (object (left.members x)) ≡ Some true) → ((y : B) → is_left (object (right.members y)) ≡ Some false)
    → LawfulFields n left → LawfulFields n right
    → Lawful (suc n) (either is_left left right)
lawful_either {n} {A} {B} {left} {right} is_left is_so is_other h k = record {
  back = back_either;
  kept = λ d. then_is _ (is_left d) (λ b. left_or_right left.found right.found b d) (kept_either d);
  shallow = shallow_either;
  no_float = no_float_either;
  ordered = ordered_either;
  small = small_either;
  plain = plain_either;
} where
  back_either : (x : A ⊎ B) → is_in_either left right x ≡ true
      → (either is_left left right).found (object (members_either left right x)) ≡ Some x
  back_either (inl a) e = rw (is_so a) (ap (option_map (λ x. inl x)) (h.back a no_members e (AreNew-none left.names)))
  back_either (inr b) e = rw (is_other b) (ap (option_map (λ y. inr y)) (k.back b no_members e (AreNew-none right.names)))

  shallow_either : (x : A ⊎ B) → depth ((either is_left left right).value x) ≤ suc n
  shallow_either (inl a) = let most : members_depth (left.members a) ≤ n = h.shallow a in omega (arith, most)
  shallow_either (inr b) = let most : members_depth (right.members b) ≤ n = k.shallow b in omega (arith, most)

  no_float_either : (x : A ⊎ B) → has_float ((either is_left left right).value x) ≡ false
  no_float_either (inl a) = h.no_float a
  no_float_either (inr b) = k.no_float b

  ordered_either : (x : A ⊎ B) → is_ordered ((either is_left left right).value x) ≡ true
  ordered_either (inl a) = h.ordered a
  ordered_either (inr b) = k.ordered b

  small_either : (x : A ⊎ B) → is_in_either left right x ≡ true → HasSmallNumbers ((either is_left left right).value x)
  small_either (inl a) = h.small a
  small_either (inr b) = k.small b

  plain_either : (x : A ⊎ B) → is_in_either left right x ≡ true → AreTexts (texts_either left right x)
      → IsPlain ((either is_left left right).value x)
  plain_either (inl a) = h.plain a
  plain_either (inr b) = k.plain b

  kept_left : (o : Option A) → IfSome o (λ x. left.is_in x ≡ true)
      → IfSome (option_map (λ (x : A). inl x) o) (λ x. is_in_either left right x ≡ true)
  kept_left None h = tt
  kept_left (Some a) h = h

  kept_right : (o : Option B) → IfSome o (λ y. right.is_in y ≡ true)
      → IfSome (option_map (λ (y : B). inr y) o) (λ x. is_in_either left right x ≡ true)
  kept_right None h = tt
  kept_right (Some b) h = h

  kept_either : (d : Data) (b : Bool) → IfSome (left_or_right left.found right.found b d) (λ x. is_in_either left right x ≡ true)
  kept_either d true = kept_left (left.found d) (h.kept d)
  kept_either d false = kept_right (right.found d) (k.kept d)

-- ---- the same value in other words

-- taking apart and making are inverse where they are looked at
pub lawful_made_of : {n : ℕ} {A B : Type 0} {form : Form A} (parts : B → A) (made : A → Option B) → ((x : B) → made (parts x) ≡ Some x)
    → ((y : A) → form.is_in y ≡ true → IfSome (made y) (λ x. form.is_in (parts x) ≡ true)) → Lawful n form
    → Lawful n (made_of parts made form)
lawful_made_of {n} {A} {B} {form} parts made again stays h = record {
  back = λ x e. rw (h.back (parts x) e) (again x);
  kept = λ d. IfSome-then (form.found d) (h.kept d);
  shallow = λ x. h.shallow (parts x);
  no_float = λ x. h.no_float (parts x);
  ordered = λ x. h.ordered (parts x);
  small = λ x e. h.small (parts x) e;
  plain = λ x e t. h.plain (parts x) e t;
} where
  IfSome-then : (o : Option A) → IfSome o (λ y. form.is_in y ≡ true) → IfSome (o >>= made) (λ x. form.is_in (parts x) ≡ true)
  IfSome-then None k = tt
  IfSome-then (Some y) k = stays y k
