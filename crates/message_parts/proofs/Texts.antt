-- The compact text of a value without floats reads as the value, and is UTF-8 where its texts are.
use Rattle.message_parts.proofs.Common.{[], and_parts, ap, append-nil, are_ascii, arith, array, Bool, boolean, comma_if, compact_text, Data, decimal, depth, Equal, false, float, Greater, HasSmallNumbers, IsSmallNumber, IsUtf8, IsUtf8-are_ascii, IsUtf8-boolean, IsUtf8-quoted, item, Items, items_depth, items_outline, items_text, ItemsHaveSmallNumbers, Less, List, lt-ltb, member, Members, members_depth, members_outline, members_text, MembersHaveSmallNumbers, negative, negsuc, no_items, no_members, null, number, object, option_and_then, Ordering, outline, pos, put, refl, signed_decimal, Some, string, suc, sym, true, unsigned, ℕ, ◌<◌, ◌^◌, ◌∙◌, ◌∷◌, ◌≡◌, ◌≤◌}
use Rattle.std.proofs.lemmas.Cmp.{nat_list_cmp_total}
use Rattle.std.proofs.lemmas.Fmt.{decimal_is_IsNumeral}
use Rattle.std.proofs.lemmas.Str.{IsUtf8-append, IsUtf8-nil}
use Rattle.std.specs.Char.{digit_value}
use Rattle.std.specs.Cmp.Lexicographic.{slice_cmp}
use Rattle.std.specs.Ordering.{nat_cmp, is_lt, ordering_reverse}
use Rattle.std.specs.Str.Parse.{AllDigits}
use Rattle.json.specs.Json as json
use Rattle.json.specs.Lex.{tokens}
use Rattle.json.specs.Tree as tree
use Rattle.json.proofs.Printed.Decimals.{IsNumber-decimal, IsNumber-signed_decimal}
use Rattle.json.proofs.Printed.Tokens.{tokens-print}
use Rattle.json.proofs.Printed.Trees.{value-json_tokens, ArePrintable-json_tokens}
use Rattle.serde_json.specs.Read.{read, of_json, of_items, of_members, max_depth}
use Rattle.serde_json.proofs.Numbers.{number_of-decimal, number_of-negative}
use Rattle.serde_json.proofs.Texts.{print-outline}
use Rattle.protocol.specs.Json.{json_of}
use Rattle.message_parts.specs.Order.{begins_above, is_ordered, are_items_ordered, are_members_ordered}
use Rattle.protocol.proofs.JsonTexts.{json_of-text}

-- ---- reading

tokens-compact_text : (d : Data) → tree.HasNumbers (outline d) → tokens (compact_text d) ≡ tree.json_tokens (outline d)
tokens-compact_text d h =
    ap tokens (sym (print-outline d)) ∙ tokens-print (tree.json_tokens (outline d)) (ArePrintable-json_tokens (outline d) h)

read-tokens : (text : List ℕ) (d : Data) → tokens text ≡ tree.json_tokens (outline d) → tree.depth (outline d) ≤ max_depth
    → read text ≡ of_json (outline d)
read-tokens text d is shallow =
    ap (λ o. option_and_then of_json (option_and_then (λ p. json.if_last p.0 p.1) o))
    (ap (json.value max_depth) (is ∙ sym (append-nil _)) ∙ value-json_tokens (outline d) max_depth [] shallow)

-- ---- UTF-8

digits_are_ascii : (ds : List ℕ) → AllDigits 10 ds → are_ascii ds ≡ true
digits_are_ascii [] h = refl
digits_are_ascii (d ∷ ds) h =
    let digit : digit_value d < 10 = h.0 in
    let small : d < 128 = grind arith in
    rw (lt-ltb d 128 small) (digits_are_ascii ds h.1)

pub IsUtf8-decimal : (n : ℕ) → n < 2 ^ 64 → IsUtf8 (decimal n)
IsUtf8-decimal n h = IsUtf8-are_ascii (decimal n) (digits_are_ascii (decimal n) (decimal_is_IsNumeral n h).0.1)

ascii_then : (x : ℕ) (s : List ℕ) → are_ascii (x ∷ []) ≡ true → IsUtf8 s → IsUtf8 (x ∷ s)
ascii_then x s h u = IsUtf8-append (x ∷ []) s (IsUtf8-are_ascii (x ∷ []) h) u

IsUtf8-negative : (n : ℕ) → n < 2 ^ 63 → IsUtf8 (signed_decimal (negsuc n))
IsUtf8-negative n h = ascii_then 45 (decimal (suc n)) refl (IsUtf8-decimal (suc n) (omega (arith, h)))

-- the numbers are small, and the texts are UTF-8
abbrev mutual
  pub IsPlain : Data → Type 0
  IsPlain null = Unit {0}
  IsPlain (boolean b) = Unit {0}
  IsPlain (number n) = IsSmallNumber n
  IsPlain (string s) = IsUtf8 s
  IsPlain (array ds) = AreItemsPlain ds
  IsPlain (object ms) = AreMembersPlain ms

  pub AreItemsPlain : Items → Type 0
  AreItemsPlain no_items = Unit {0}
  AreItemsPlain (item d ds) = IsPlain d × AreItemsPlain ds

  pub AreMembersPlain : Members → Type 0
  AreMembersPlain no_members = Unit {0}
  AreMembersPlain (member k d ms) = IsUtf8 k × IsPlain d × AreMembersPlain ms

comma : (later : Bool) → IsUtf8 (comma_if later)
comma true = IsUtf8-are_ascii (44 ∷ []) refl
comma false = IsUtf8-nil

mutual
  pub IsUtf8-compact_text : (d : Data) → IsPlain d → IsUtf8 (compact_text d)
  IsUtf8-compact_text null h = IsUtf8-are_ascii _ refl
  IsUtf8-compact_text (boolean b) h = IsUtf8-boolean b
  IsUtf8-compact_text (number (unsigned n)) h = IsUtf8-decimal n h
  IsUtf8-compact_text (number (negative (pos n))) h = absurd h
  IsUtf8-compact_text (number (negative (negsuc n))) h = IsUtf8-negative n h
  IsUtf8-compact_text (number (float x)) h = absurd h
  IsUtf8-compact_text (string s) h = IsUtf8-quoted s h
  IsUtf8-compact_text (array ds) h = ascii_then 91 _ refl (IsUtf8-items_text false ds h)
  IsUtf8-compact_text (object ms) h = ascii_then 123 _ refl (IsUtf8-members_text false ms h)

  IsUtf8-items_text : (later : Bool) (ds : Items) → AreItemsPlain ds → IsUtf8 (items_text later ds)
  IsUtf8-items_text later no_items h = ascii_then 93 [] refl IsUtf8-nil
  IsUtf8-items_text later (item d ds) h =
      IsUtf8-append _ _ (comma later) (IsUtf8-append _ _ (IsUtf8-compact_text d h.0) (IsUtf8-items_text true ds h.1))

  IsUtf8-members_text : (later : Bool) (ms : Members) → AreMembersPlain ms → IsUtf8 (members_text later ms)
  IsUtf8-members_text later no_members h = ascii_then 125 [] refl IsUtf8-nil
  IsUtf8-members_text later (member k d ms) h =
      IsUtf8-append _ _ (comma later)
      (IsUtf8-append _ _ (IsUtf8-quoted k h.0)
      (ascii_then 58 _ refl (IsUtf8-append _ _ (IsUtf8-compact_text d h.1) (IsUtf8-members_text true ms h.2))))

-- ---- the value of its outline

mutual
  pub HasSmallNumbers-IsPlain : (d : Data) → IsPlain d → HasSmallNumbers d
  HasSmallNumbers-IsPlain null h = tt
  HasSmallNumbers-IsPlain (boolean b) h = tt
  HasSmallNumbers-IsPlain (number n) h = h
  HasSmallNumbers-IsPlain (string s) h = tt
  HasSmallNumbers-IsPlain (array ds) h = ItemsHaveSmallNumbers-plain ds h
  HasSmallNumbers-IsPlain (object ms) h = MembersHaveSmallNumbers-plain ms h

  ItemsHaveSmallNumbers-plain : (ds : Items) → AreItemsPlain ds → ItemsHaveSmallNumbers ds
  ItemsHaveSmallNumbers-plain no_items h = tt
  ItemsHaveSmallNumbers-plain (item d ds) h = (HasSmallNumbers-IsPlain d h.0, ItemsHaveSmallNumbers-plain ds h.1)

  MembersHaveSmallNumbers-plain : (ms : Members) → AreMembersPlain ms → MembersHaveSmallNumbers ms
  MembersHaveSmallNumbers-plain no_members h = tt
  MembersHaveSmallNumbers-plain (member k d ms) h = (HasSmallNumbers-IsPlain d h.1, MembersHaveSmallNumbers-plain ms h.2)

mutual
  pub HasNumbers-outline : (d : Data) → IsPlain d → tree.HasNumbers (outline d)
  HasNumbers-outline null h = tt
  HasNumbers-outline (boolean b) h = tt
  HasNumbers-outline (number (unsigned n)) h = IsNumber-decimal n h
  HasNumbers-outline (number (negative (pos n))) h = absurd h
  HasNumbers-outline (number (negative (negsuc n))) h = IsNumber-signed_decimal (negsuc n) (omega (arith, h))
  HasNumbers-outline (number (float x)) h = absurd h
  HasNumbers-outline (string s) h = tt
  HasNumbers-outline (array ds) h = ItemsHaveNumbers-outline ds h
  HasNumbers-outline (object ms) h = MembersHaveNumbers-outline ms h

  ItemsHaveNumbers-outline : (ds : Items) → AreItemsPlain ds → tree.ItemsHaveNumbers (items_outline ds)
  ItemsHaveNumbers-outline no_items h = tt
  ItemsHaveNumbers-outline (item d ds) h = (HasNumbers-outline d h.0, ItemsHaveNumbers-outline ds h.1)

  MembersHaveNumbers-outline : (ms : Members) → AreMembersPlain ms → tree.MembersHaveNumbers (members_outline ms)
  MembersHaveNumbers-outline no_members h = tt
  MembersHaveNumbers-outline (member k d ms) h = (HasNumbers-outline d h.1, MembersHaveNumbers-outline ms h.2)

mutual
  depth-outline : (d : Data) → tree.depth (outline d) ≡ depth d
  depth-outline null = refl
  depth-outline (boolean b) = refl
  depth-outline (number n) = refl
  depth-outline (string s) = refl
  depth-outline (array ds) = ap suc (items_depth-outline ds)
  depth-outline (object ms) = ap suc (members_depth-outline ms)

  items_depth-outline : (ds : Items) → tree.items_depth (items_outline ds) ≡ items_depth ds
  items_depth-outline no_items = refl
  items_depth-outline (item d ds) = rw (depth-outline d, items_depth-outline ds) refl

  members_depth-outline : (ms : Members) → tree.members_depth (members_outline ms) ≡ members_depth ms
  members_depth-outline no_members = refl
  members_depth-outline (member k d ms) = rw (depth-outline d, members_depth-outline ms) refl

-- the first members, and then the others
abbrev joined : Members → Members → Members
joined no_members ns = ns
joined (member k d ms) ns = member k d (joined ms ns)

joined-none : (ms : Members) → joined ms no_members ≡ ms
joined-none no_members = refl
joined-none (member k d ms) = ap (member k d) (joined-none ms)

joined-joined : (ms : Members) (k : List ℕ) (d : Data) (ns : Members)
    → joined (joined ms (member k d no_members)) ns ≡ joined ms (member k d ns)
joined-joined no_members k d ns = refl
joined-joined (member l e ms) k d ns = ap (member l e) (joined-joined ms k d ns)

-- each of the names is below this one
abbrev AllBelow : List ℕ → Members → Type 0
AllBelow k no_members = Unit {0}
AllBelow k (member l e ms) = (slice_cmp nat_cmp l k ≡ Less) × AllBelow k ms

put-above : (k : List ℕ) (d : Data) (ms : Members) → AllBelow k ms → put k d ms ≡ joined ms (member k d no_members)
put-above k d no_members h = refl
put-above k d (member l e ms) h =
    let above : slice_cmp nat_cmp k l ≡ Greater = nat_list_cmp_total.antisymm k l ∙ ap ordering_reverse h.0 in
    rw above (ap (member l e) (put-above k d ms h.1))

AllBelow-later : (k l : List ℕ) (ms : Members) → slice_cmp nat_cmp k l ≡ Less → AllBelow k ms → AllBelow l ms
AllBelow-later k l no_members less h = tt
AllBelow-later k l (member j e ms) less h = (nat_list_cmp_total.trans j k l h.0 less, AllBelow-later k l ms less h.1)

AllBelow-joined : (k l : List ℕ) (d : Data) (ms : Members) → slice_cmp nat_cmp k l ≡ Less → AllBelow k ms
    → AllBelow l (joined ms (member k d no_members))
AllBelow-joined k l d no_members less h = (less, tt)
AllBelow-joined k l d (member j e ms) less h = (nat_list_cmp_total.trans j k l h.0 less, AllBelow-joined k l d ms less h.1)

less_from : (o : Ordering) → is_lt o ≡ true → o ≡ Less
less_from Less e = refl
less_from Equal e = absurd cc
less_from Greater e = absurd cc

-- the names of the second members begin above those of the first
abbrev FollowedBy : Members → Members → Type 0
FollowedBy found no_members = Unit {0}
FollowedBy found (member k d ms) = AllBelow k found

follows : (found : Members) (k : List ℕ) (d : Data) (ms : Members) → AllBelow k found → begins_above k ms ≡ true
    → FollowedBy (joined found (member k d no_members)) ms
follows found k d no_members h e = tt
follows found k d (member l f ms) h e = AllBelow-joined k l d found (less_from _ e) h

mutual
  pub of_json-outline : (d : Data) → HasSmallNumbers d → is_ordered d ≡ true → of_json (outline d) ≡ Some d
  of_json-outline null h o = refl
  of_json-outline (boolean b) h o = refl
  of_json-outline (number (unsigned n)) h o = rw (number_of-decimal n h) refl
  of_json-outline (number (negative (pos n))) h o = absurd h
  of_json-outline (number (negative (negsuc n))) h o = rw (number_of-negative n h) refl
  of_json-outline (number (float x)) h o = absurd h
  of_json-outline (string s) h o = refl
  of_json-outline (array ds) h o = rw (of_items-outline ds h o) refl
  of_json-outline (object ms) h o = rw (of_members-outline ms no_members h o (first ms)) refl

  of_items-outline : (ds : Items) → ItemsHaveSmallNumbers ds → are_items_ordered ds ≡ true → of_items (items_outline ds) ≡ Some ds
  of_items-outline no_items h o = refl
  of_items-outline (item d ds) h o =
      let p = and_parts _ _ o in
      rw (of_json-outline d h.0 p.0, of_items-outline ds h.1 p.1) refl

  of_members-outline : (ms found : Members) → MembersHaveSmallNumbers ms → are_members_ordered ms ≡ true → FollowedBy found ms
      → of_members (members_outline ms) found ≡ Some (joined found ms)
  of_members-outline no_members found h o f = ap Some (sym (joined-none found))
  of_members-outline (member k d ms) found h o f =
      let p = and_parts _ _ o in
      let q = and_parts _ _ p.1 in
      rw (of_json-outline d h.0 q.0, put-above k d found f)
      (of_members-outline ms (joined found (member k d no_members)) h.1 q.1 (follows found k d ms f p.0)
      ∙ ap Some (joined-joined found k d ms))

  first : (ms : Members) → FollowedBy no_members ms
  first no_members = tt
  first (member k d ms) = tt

-- a text with the tokens of a value reads as the value
pub json_of-tokens : (text : List ℕ) (d : Data) → IsUtf8 text → tokens text ≡ tree.json_tokens (outline d) → HasSmallNumbers d
    → is_ordered d ≡ true → depth d ≤ max_depth → json_of text ≡ Some d
json_of-tokens text d utf8 is small ordered shallow =
    json_of-text text utf8 ∙ read-tokens text d is (rw (depth-outline d) shallow) ∙ of_json-outline d small ordered

-- the compact text of a value reads as the value
pub json_of-compact_text : (d : Data) → IsPlain d → is_ordered d ≡ true → depth d ≤ max_depth → json_of (compact_text d) ≡ Some d
json_of-compact_text d plain ordered shallow =
    json_of-tokens (compact_text d) d (IsUtf8-compact_text d plain) (tokens-compact_text d (HasNumbers-outline d plain))
    (HasSmallNumbers-IsPlain d plain) ordered shallow
