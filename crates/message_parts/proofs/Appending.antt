-- What was written, piece by piece.
use Rattle.message_parts.proofs.Common.{[], ap, append-nil, append_assoc, Appends, AreWritten, arith, array, Data, Err, ints, IsWritten, item, Items, items_outline, items_tokens, ItemsWritten, List, member, member_if, Members, members_outline, members_tokens, MembersHaveSmallNumbers, negative, negsuc, no_items, no_members, None, number, object, of_integer, Ok, OnOk, Option, pos, refl, Result, signed_decimal, Some, subst, sym, tokens_of, unsigned, ℕ, ℤ, ◌++◌, ◌<◌, ◌^◌, ◌∙◌, ◌∷◌, ◌≡◌}
use mir.Syntax.{w32}
use mir.Val.{SFits}
use Rattle.json.specs.Token.{Token, begin_object, end_object, begin_array, end_array, key, number as digits}
use Rattle.json.specs.Tree as tree
use Rattle.json.specs.Written.{Written, Writes}

-- ---- tokens

-- some tokens, and then others
pub Appends-then : {first second third : Written} {some others : List Token} → Appends first second some → Appends second third others
    → Appends first third (some ++ others)
Appends-then {first} {second} {third} {some} {others} h k = record {
  before = k.before ∙ h.before;
  tokens = k.tokens ∙ ap (λ ts. ts ++ others) h.tokens ∙ append_assoc first.tokens some others;
}

pub Appends-token : {E : Type 0} {old new : Written} {token : Token} → Writes {E = E} (Ok tt) old new token → Appends old new (token ∷ [])
Appends-token h = record { before = h.room.0; tokens = h.ok }

-- a value that is one token
pub IsWritten-token : {E : Type 0} {old new : Written} {token : Token} (value : Data) → tokens_of value ≡ token ∷ []
    → MembersHaveSmallNumbers (member [] value no_members) → (r : Result (Unit {0}) E) → Writes r old new token
    → OnOk r (IsWritten old new value)
IsWritten-token {E} {old} {new} {token} value is small (Ok x) h =
    record { appends = subst (Appends old new) (sym is) (record { before = h.room.0; tokens = h.ok }); small = small.0 }
IsWritten-token value is small (Err e) h = tt

-- a number, which may be below 0
pub IsWritten-signed : {E : Type 0} {old new : Written} (z : ℤ) → SFits w32 z → (r : Result (Unit {0}) E)
    → Writes r old new (digits (signed_decimal z)) → OnOk r (IsWritten old new (number (of_integer z)))
IsWritten-signed (pos n) fits r h =
    let small : n < 2 ^ 64 = omega (arith, ints, fits) in IsWritten-token (number (unsigned n)) refl (small, tt) r h
IsWritten-signed (negsuc n) fits r h =
    let small : n < 2 ^ 63 = omega (arith, ints, fits) in IsWritten-token (number (negative (negsuc n))) refl (small, tt) r h

-- ---- members

members_tokens-end : (ms : Members) → members_tokens ms ++ (end_object ∷ []) ≡ tree.members_tokens (members_outline ms)
members_tokens-end no_members = refl
members_tokens-end (member k d ms) =
    ap (λ ts. key k ∷ ts)
    (append_assoc (tokens_of d) (members_tokens ms) (end_object ∷ []) ∙ ap (λ ts. tokens_of d ++ ts) (members_tokens-end ms))

-- a name and its value
pub member_written : {E : Type 0} {first second third : Written} {name : List ℕ} {value : Data}
    → Writes {E = E} (Ok tt) first second (key name) → IsWritten second third value → AreWritten first third (member name value no_members)
member_written {E} {first} {second} {third} {name} {value} h k = record {
  appends =
      subst (λ ts. Appends first third (key name ∷ ts)) (sym (append-nil (tokens_of value))) (Appends-then (Appends-token h) k.appends);
  small = (k.small, tt);
}

-- the same, where the value is written by a call that may fail
pub member_if_written : {E : Type 0} {first second : Written} {name : List ℕ} (third : Written) (value : Data) (r : Result (Unit {0}) E)
    → Writes {E = E} (Ok tt) first second (key name) → OnOk r (IsWritten second third value)
    → OnOk r (AreWritten first third (member name value no_members))
member_if_written third value (Ok x) h k = member_written h k
member_if_written third value (Err e) h k = tt

-- a member, and then others
pub and_then : {first second third : Written} {name : List ℕ} {value : Data} {others : Members}
    → AreWritten first second (member name value no_members) → AreWritten second third others
    → AreWritten first third (member name value others)
and_then {first} {second} {third} {name} {value} {others} h k = record {
  appends =
      subst (λ ts. Appends first third (key name ∷ (ts ++ members_tokens others))) (append-nil (tokens_of value))
      (Appends-then h.appends k.appends);
  small = (h.small.0, k.small);
}

-- a member that may be absent, and then others
pub if_then : {A : Type 0} {first second third : Written} {others : Members} (name : List ℕ) (form : A → Data) (x : Option A)
    → AreWritten first second (member_if name form x no_members) → AreWritten second third others
    → AreWritten first third (member_if name form x others)
if_then name form None h k = record { appends = Appends-then h.appends k.appends; small = k.small }
if_then name form (Some x) h k = and_then h k

pub no_member : {here : Written} → AreWritten here here no_members
no_member {here} = record { appends = record { before = refl; tokens = sym (append-nil here.tokens) }; small = tt }

-- the object of members that were written
pub object_written : {E F : Type 0} {first second third fourth : Written} {members : Members} → (r : Result (Unit {0}) F)
    → Writes {E = E} (Ok tt) first second begin_object → AreWritten second third members → Writes r third fourth end_object
    → OnOk r (IsWritten first fourth (object members))
object_written {E} {F} {first} {second} {third} {fourth} {members} (Ok x) begun h ended = record {
  appends =
      subst (λ ts. Appends first fourth (begin_object ∷ ts)) (members_tokens-end members)
      (Appends-then (Appends-token begun) (Appends-then h.appends (Appends-token {E = F} ended)));
  small = h.small;
}
object_written (Err e) begun h ended = tt

-- the same, where it is not the last that is written
pub object_is_written : {E F : Type 0} {first second third fourth : Written} {members : Members}
    → Writes {E = E} (Ok tt) first second begin_object → AreWritten second third members → Writes {E = F} (Ok tt) third fourth end_object
    → IsWritten first fourth (object members)
object_is_written begun h ended = object_written (Ok tt) begun h ended

-- ---- items

items_tokens-end : (ds : Items) → items_tokens ds ++ (end_array ∷ []) ≡ tree.items_tokens (items_outline ds)
items_tokens-end no_items = refl
items_tokens-end (item d ds) =
    append_assoc (tokens_of d) (items_tokens ds) (end_array ∷ []) ∙ ap (λ ts. tokens_of d ++ ts) (items_tokens-end ds)

-- an item, and then others
pub item_then : {first second third : Written} {value : Data} {others : Items} → IsWritten first second value
    → ItemsWritten second third others → ItemsWritten first third (item value others)
item_then h k = record { appends = Appends-then h.appends k.appends; small = (h.small, k.small) }

pub no_item : {here : Written} → ItemsWritten here here no_items
no_item {here} = record { appends = record { before = refl; tokens = sym (append-nil here.tokens) }; small = tt }

-- the array of items that were written
pub array_written : {E F : Type 0} {first second third fourth : Written} {items : Items} → (r : Result (Unit {0}) F)
    → Writes {E = E} (Ok tt) first second begin_array → ItemsWritten second third items → Writes r third fourth end_array
    → OnOk r (IsWritten first fourth (array items))
array_written {E} {F} {first} {second} {third} {fourth} {items} (Ok x) begun h ended = record {
  appends =
      subst (λ ts. Appends first fourth (begin_array ∷ ts)) (items_tokens-end items)
      (Appends-then (Appends-token begun) (Appends-then h.appends (Appends-token {E = F} ended)));
  small = h.small;
}
array_written (Err e) begun h ended = tt

pub array_is_written : {E F : Type 0} {first second third fourth : Written} {items : Items}
    → Writes {E = E} (Ok tt) first second begin_array → ItemsWritten second third items → Writes {E = F} (Ok tt) third fourth end_array
    → IsWritten first fourth (array items)
array_is_written begun h ended = array_written (Ok tt) begun h ended
