-- `is_same` decides whether two values are one, where one of them has no float.
use Rattle.replies.proofs.Common.{and_parts, ap, ap₂, array, Bool, boolean, compact_text, Data, Decides, false, false≢true, float, has_float, is_float, item, Items, items_have_float, List, member, Members, members_have_float, negative, no_items, no_members, null, Num, number, object, or_parts, read, refl, Some, string, sym, true, unsigned, ℕ, ◌∙◌, ◌≡◌}
use Rattle.std.proofs.lemmas.Bool.Decides.{Decides-eqb, Decides-int_eq, same_from_decides}
use Rattle.std.proofs.lemmas.Slice.Eq.{bytes_eq-Decides}
use Rattle.std.specs.Str.{bytes_eq}
use Rattle.replies.specs.Same.{is_same_truth, is_same_number, is_same, are_same_items, are_same_members}

truth_from : (a b : Bool) → is_same_truth a b ≡ true → a ≡ b
truth_from true true e = refl
truth_from true false e = absurd (false≢true e)
truth_from false true e = absurd (false≢true e)
truth_from false false e = refl

number_from : (m n : Num) → is_same_number m n ≡ true → m ≡ n
number_from (unsigned m) (unsigned n) e = ap unsigned ((Decides-eqb m n).0 e)
number_from (negative m) (negative n) e = ap negative ((Decides-int_eq m n).0 e)
number_from (unsigned m) (negative n) e = absurd (false≢true e)
number_from (unsigned m) (float n) e = absurd (false≢true e)
number_from (negative m) (unsigned n) e = absurd (false≢true e)
number_from (negative m) (float n) e = absurd (false≢true e)
number_from (float m) n e = absurd (false≢true e)

mutual
  pub same_from : (d e : Data) → is_same d e ≡ true → d ≡ e
  same_from null null h = refl
  same_from (boolean a) (boolean b) h = ap boolean (truth_from a b h)
  same_from (number m) (number n) h = ap number (number_from m n h)
  same_from (string s) (string t) h = ap string ((bytes_eq-Decides s t).0 h)
  same_from (array ds) (array es) h = ap array (items_from ds es h)
  same_from (object ms) (object ns) h = ap object (members_from ms ns h)
  same_from _ _ h = absurd (false≢true h)

  items_from : (ds es : Items) → are_same_items ds es ≡ true → ds ≡ es
  items_from no_items no_items h = refl
  items_from (item d ds) (item e es) h = let p = and_parts _ _ h in ap₂ item (same_from d e p.0) (items_from ds es p.1)
  items_from _ _ h = absurd (false≢true h)

  members_from : (ms ns : Members) → are_same_members ms ns ≡ true → ms ≡ ns
  members_from no_members no_members h = refl
  members_from (member k d ms) (member l e ns) h =
      let p = and_parts _ _ h in
      let q = and_parts _ _ p.1 in
      let k_is : k ≡ l = (bytes_eq-Decides k l).0 p.0 in
      let d_is = same_from d e q.0 in
      let ms_is = members_from ms ns q.1 in
      cc
  members_from _ _ h = absurd (false≢true h)

truth_itself : (b : Bool) → is_same_truth b b ≡ true
truth_itself true = refl
truth_itself false = refl

number_itself : (n : Num) → is_float n ≡ false → is_same_number n n ≡ true
number_itself (unsigned n) h = (Decides-eqb n n).1 refl
number_itself (negative n) h = (Decides-int_eq n n).1 refl
number_itself (float x) h = cc

mutual
  pub same_itself : (d : Data) → has_float d ≡ false → is_same d d ≡ true
  same_itself null h = refl
  same_itself (boolean b) h = truth_itself b
  same_itself (number n) h = number_itself n h
  same_itself (string s) h = (bytes_eq-Decides s s).1 refl
  same_itself (array ds) h = items_itself ds h
  same_itself (object ms) h = members_itself ms h

  items_itself : (ds : Items) → items_have_float ds ≡ false → are_same_items ds ds ≡ true
  items_itself no_items h = refl
  items_itself (item d ds) h = let p = or_parts (has_float d) _ h in rw (same_itself d p.0) (items_itself ds p.1)

  members_itself : (ms : Members) → members_have_float ms ≡ false → are_same_members ms ms ≡ true
  members_itself no_members h = refl
  members_itself (member k d ms) h =
      let p = or_parts (has_float d) _ h in rw ((bytes_eq-Decides k k).1 refl, same_itself d p.0) (members_itself ms p.1)

-- ---- the compact texts of two values

same_texts : (v w : Data) (s t : List ℕ) → (has_float v ≡ false → s ≡ compact_text v) → t ≡ compact_text w → has_float w ≡ false → v ≡ w
    → s ≡ t
same_texts v w s t text other exact e = text (ap has_float e ∙ exact) ∙ ap compact_text e ∙ sym other

same_values : (v w : Data) (s t : List ℕ) → read s ≡ Some v → read t ≡ Some w → s ≡ t → v ≡ w
same_values v w s t reads other e = let both = sym reads ∙ ap read e ∙ other in cc

is_same-Decides : (v w : Data) → has_float w ≡ false → Decides (is_same v w) (v ≡ w)
is_same-Decides v w exact = (same_from v w, λ e. rw e (same_itself w exact))

-- they are one exactly where the values are
pub bytes_eq-texts : (v w : Data) (s t : List ℕ) → read s ≡ Some v → read t ≡ Some w → (has_float v ≡ false → s ≡ compact_text v)
    → t ≡ compact_text w → has_float w ≡ false → bytes_eq s t ≡ is_same v w
bytes_eq-texts v w s t reads other_reads text other exact =
    let texts : Decides (bytes_eq s t) (v ≡ w) = (
      λ h. same_values v w s t reads other_reads ((bytes_eq-Decides s t).0 h),
      λ e. (bytes_eq-Decides s t).1
          (same_texts v w s t text other exact e),
    ) in
    same_from_decides (bytes_eq s t) (is_same v w) texts (is_same-Decides v w exact)
