-- The same of the value that a text is read as, and of what is found in it.
use Rattle.text_laws.proofs.Common.{ap, array, boolean, Data, Equal, Greater, IfSome, IsTextWithin, item, Items, length, Less, List, member, Members, no_items, no_members, None, null, number, object, Option, option_and_then, option_map, Ordering, put, refl, Some, string, subst, suc, sym, ℕ, ⊤, ◌∙◌, ◌≡◌, ◌≤◌}
use Rattle.std.specs.Ordering.{match_ordering, nat_cmp}
use Rattle.std.specs.Cmp.Lexicographic.{slice_cmp}
use Rattle.json.specs.Json as json
use Rattle.serde_json.specs.Find.{as_array, as_object, as_str, get_member}
use Rattle.serde_json.specs.Read.{max_depth, number_of, of_items, of_json, of_members, read}
use Rattle.protocol.specs.Json.{json_of}
use Rattle.protocol.specs.Properties.{non_null, property}
use Rattle.protocol.proofs.JsonTexts.{json_of-is_utf8, json_of-text}
use Rattle.text_laws.proofs.Trees as trees
use Rattle.text_laws.proofs.Trees.{tree_within}

-- how many items there are
abbrev pub count : Items → ℕ
count no_items = 0
count (item d ds) = suc (count ds)

-- each text has at most this many bytes, and each array at most this many items
abbrev mutual
  pub IsWithin : ℕ → Data → Type 0
  IsWithin most null = ⊤
  IsWithin most (boolean b) = ⊤
  IsWithin most (number n) = ⊤
  IsWithin most (string s) = IsTextWithin most s
  IsWithin most (array ds) = (count ds ≤ most) × AreItemsWithin most ds
  IsWithin most (object ms) = AreMembersWithin most ms

  pub AreItemsWithin : ℕ → Items → Type 0
  AreItemsWithin most no_items = ⊤
  AreItemsWithin most (item d ds) = IsWithin most d × AreItemsWithin most ds

  pub AreMembersWithin : ℕ → Members → Type 0
  AreMembersWithin most no_members = ⊤
  AreMembersWithin most (member k d ms) = IsWithin most d × AreMembersWithin most ms

-- ---- reading

by_order : {A : Type 0} (P : A → Type 0) (o : Ordering) (x y z : A) → P x → P y → P z → P (match_ordering o x y z)
by_order P Less x y z h i j = h
by_order P Equal x y z h i j = i
by_order P Greater x y z h i j = j

put_within : (most : ℕ) (k : List ℕ) (d : Data) (ms : Members) → IsWithin most d → AreMembersWithin most ms
    → AreMembersWithin most (put k d ms)
put_within most k d no_members h hs = (h, tt)
put_within most k d (member l e ms) h hs =
    by_order (AreMembersWithin most) (slice_cmp nat_cmp k l) (member k d (member l e ms)) (member l d ms) (member l e (put k d ms))
    (h, (hs.0, hs.1)) (h, hs.1) (hs.0, put_within most k d ms h hs.1)

-- what holds of each value that is found, and of what follows from it
pub then_holds : {A B : Type 0} (P : A → Type 0) (Q : B → Type 0) (found : Option A) (next : A → Option B) → IfSome found P
    → ((a : A) → P a → IfSome (next a) Q) → IfSome (option_and_then next found) Q
then_holds P Q None next h on = tt
then_holds P Q (Some a) next h on = on a h

pub then_any : {A B : Type 0} (Q : B → Type 0) (found : Option A) (next : A → Option B) → ((a : A) → IfSome (next a) Q)
    → IfSome (option_and_then next found) Q
then_any Q None next on = tt
then_any Q (Some a) next on = on a

pub map_holds : {A B : Type 0} (P : A → Type 0) (Q : B → Type 0) (f : A → B) (found : Option A) → ((a : A) → P a → Q (f a))
    → IfSome found P → IfSome (option_map f found) Q
map_holds P Q f None on h = tt
map_holds P Q f (Some a) on h = on a h

map_any : {A B : Type 0} (Q : B → Type 0) (f : A → B) (found : Option A) → ((a : A) → Q (f a)) → IfSome (option_map f found) Q
map_any Q f None on = tt
map_any Q f (Some a) on = on a

-- this many items, and what each is
abbrev AreSoMany : ℕ → ℕ → Items → Type 0
AreSoMany most n ds = (count ds ≡ n) × AreItemsWithin most ds

mutual
  of_json_within : (most : ℕ) (j : json.Json) → trees.IsWithin most j → IfSome (of_json j) (IsWithin most)
  of_json_within most json.null h = tt
  of_json_within most (json.boolean b) h = tt
  of_json_within most (json.number s) h = map_any (IsWithin most) number (number_of s) (λ n. tt)
  of_json_within most (json.string s) h = h
  of_json_within most (json.array js) h =
      map_holds (AreSoMany most (trees.count js)) (IsWithin most) array (of_items js)
      (λ ds held. (subst (λ n. n ≤ most) (sym held.0) h.0, held.1)) (of_items_within most js h.1)
  of_json_within most (json.object ms) h =
      map_holds (AreMembersWithin most) (IsWithin most) object (of_members ms no_members) (λ found held. held)
      (of_members_within most ms no_members h tt)

  of_items_within : (most : ℕ) (js : json.Items) → trees.AreItemsWithin most js
      → IfSome (of_items js) (AreSoMany most (trees.count js))
  of_items_within most json.no_items h = (refl, tt)
  of_items_within most (json.item j js) h =
      then_holds (IsWithin most) (AreSoMany most (suc (trees.count js))) (of_json j) (λ d. option_map (item d) (of_items js))
      (of_json_within most j h.0) (λ d held.
      map_holds (AreSoMany most (trees.count js)) (AreSoMany most (suc (trees.count js))) (item d) (of_items js)
      (λ ds others. (ap suc others.0, (held, others.1))) (of_items_within most js h.1))

  of_members_within : (most : ℕ) (ms : json.Members) (found : Members) → trees.AreMembersWithin most ms
      → AreMembersWithin most found → IfSome (of_members ms found) (AreMembersWithin most)
  of_members_within most json.no_members found h held = held
  of_members_within most (json.member k j ms) found h held =
      then_holds (IsWithin most) (AreMembersWithin most) (of_json j) (λ d. of_members ms (put k d found)) (of_json_within most j h.0)
      (λ d within. of_members_within most ms (put k d found) h.1 (put_within most k d found within held))

-- the value of a body
pub json_within : (body : List ℕ) → IfSome (json_of body) (IsWithin (length body))
json_within body = by (json_of body) refl where
  by : (found : Option Data) → json_of body ≡ found → IfSome found (IsWithin (length body))
  by None is = tt
  by (Some value) is =
      let utf8 = json_of-is_utf8 body value is in
      let same : read body ≡ Some value = sym (json_of-text body utf8) ∙ is in
      let within : IfSome (read body) (IsWithin (length body)) =
      then_holds (trees.IsWithin (length body)) (IsWithin (length body)) _ of_json (tree_within max_depth body utf8)
      (λ j held. of_json_within (length body) j held) in
      subst (λ found. IfSome found (IsWithin (length body))) same within

-- ---- finding

get_within : (most : ℕ) (k : List ℕ) (ms : Members) → AreMembersWithin most ms → IfSome (get_member k ms) (IsWithin most)
get_within most k no_members h = tt
get_within most k (member l e ms) h =
    by_order (λ (found : Option Data). IfSome found (IsWithin most)) (slice_cmp nat_cmp k l) (get_member k ms) (Some e)
    (get_member k ms) (get_within most k ms h.1) h.0 (get_within most k ms h.1)

non_null_within : (most : ℕ) (d : Data) → IsWithin most d → IfSome (non_null d) (IsWithin most)
non_null_within most null h = tt
non_null_within most _ h = h

pub property_within : (most : ℕ) (name : List ℕ) (ms : Members) → AreMembersWithin most ms
    → IfSome (property name ms) (IsWithin most)
property_within most name ms h =
    then_holds (IsWithin most) (IsWithin most) (get_member name ms) non_null (get_within most name ms h) (non_null_within most)

-- a text
pub as_str_within : (most : ℕ) (d : Data) → IsWithin most d → IfSome (as_str d) (IsTextWithin most)
as_str_within most (string s) h = h
as_str_within most _ h = tt

pub as_object_within : (most : ℕ) (d : Data) → IsWithin most d → IfSome (as_object d) (AreMembersWithin most)
as_object_within most (object ms) h = h
as_object_within most _ h = tt

-- a list
pub as_array_within : (most : ℕ) (d : Data) → IsWithin most d
    → IfSome (as_array d) (λ ds. (count ds ≤ most) × AreItemsWithin most ds)
as_array_within most (array ds) h = h
as_array_within most _ h = tt
