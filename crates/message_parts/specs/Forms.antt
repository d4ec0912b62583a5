-- How the values of a message stand in JSON.
--
-- A form is a kind of value in messages: a whole number, an address, a frame, a list of frames. It says as which JSON
-- value each such value is written, and which one a JSON value is taken for. What is taken for a frame need not be
-- one: members that a frame does not have are not looked at, and neither is what stands in every frame.
use Rattle.std.specs.Prelude.{ℕ, ℤ, pos, neg_ℤ, int_le, ◌^◌, nat_lt, ◌&&◌, Bool, true, false, List, [], ◌∷◌}
use Rattle.std.specs.Prelude.{◌++◌, Option, Some, None, option_map, if◌then◌else◌, IsUtf8, ◌⊎◌, bytes_eq}
use mathlib.Core.Logic.{inl, inr}
use Rattle.std.specs.List.{list_all}
use Rattle.serde_json.specs.Data.{Data, boolean, number, unsigned, string, array, object, Items, no_items, item}
use Rattle.serde_json.specs.Data.{Members, no_members, member}
use Rattle.serde_json.specs.Find.{get, as_array, as_bool, as_number, as_str, as_u64, of_integer}
use Rattle.protocol.specs.Properties.{◌>>=◌, integer}

-- a kind of value in messages
pub record Form (A : Type 0) : Type 0 where
  -- as which JSON value it is written
  pub value : A → Data
  -- which one a JSON value is taken for
  pub found : Data → Option A
  -- whether its numbers are in their ranges
  pub is_in : A → Bool
  -- the texts in it
  pub texts : A → List (List ℕ)

-- the texts are UTF-8, as they are in each value that a program holds
abbrev pub AreTexts : List (List ℕ) → Type 0
AreTexts [] = Unit {0}
AreTexts (s ∷ ss) = IsUtf8 s × AreTexts ss

-- ---- single values

-- whether 32 bits hold the number
abbrev pub is_word : ℕ → Bool
is_word n = nat_lt n (2 ^ 32)

-- the number, if 32 bits hold it
abbrev pub within_word : ℕ → Option ℕ
within_word n = if is_word n then Some n else None

-- a whole number of 32 bits
abbrev pub whole : Form ℕ
whole = record {
  value = λ n. number (unsigned n);
  found = λ d. as_number d >>= as_u64 >>= within_word;
  is_in = is_word;
  texts = λ n. [];
}

-- whether 32 bits hold the number, one of them for its sign
abbrev pub is_signed_word : ℤ → Bool
is_signed_word z = int_le (neg_ℤ (pos 2147483648)) z && int_le z (pos 2147483647)

-- a whole number of 32 bits, which may be below 0
abbrev pub signed : Form ℤ
signed = record {
  value = λ z. number (of_integer z);
  found = integer;
  is_in = is_signed_word;
  texts = λ z. [];
}

-- true or false
abbrev pub truth : Form Bool
truth = record {
  value = λ b. boolean b;
  found = as_bool;
  is_in = λ b. true;
  texts = λ b. [];
}

-- a text
abbrev pub text : Form (List ℕ)
text = record {
  value = λ s. string s;
  found = as_str;
  is_in = λ s. true;
  texts = λ s. s ∷ [];
}

-- the first of these values that has this name
abbrev pub first_named : {A : Type 0} → (A → List ℕ) → List A → List ℕ → Option A
first_named name_of [] name = None
first_named name_of (x ∷ xs) name = if bytes_eq name (name_of x) then Some x else first_named name_of xs name

-- one of these values, as its name
abbrev pub one_of : {A : Type 0} → (A → List ℕ) → List A → Form A
one_of name_of xs = record {
  value = λ x. string (name_of x);
  found = λ d. as_str d >>= first_named name_of xs;
  is_in = λ x. true;
  texts = λ x. [];
}

-- ---- lists

-- what is said of each item, one after the other
abbrev pub all_found : {A : Type 0} → (Data → Option A) → Items → Option (List A)
all_found found no_items = Some []
all_found found (item d ds) = do
  x ← found d
  xs ← all_found found ds
  Some (x ∷ xs)

-- the items
abbrev pub items_of : {A : Type 0} → (A → Data) → List A → Items
items_of value [] = no_items
items_of value (x ∷ xs) = item (value x) (items_of value xs)

-- the texts in each
abbrev pub texts_of : {A : Type 0} → (A → List (List ℕ)) → List A → List (List ℕ)
texts_of texts [] = []
texts_of texts (x ∷ xs) = texts x ++ texts_of texts xs

-- a list of such values
abbrev pub list : {A : Type 0} → Form A → Form (List A)
list form = record {
  value = λ xs. array (items_of form.value xs);
  found = λ d. as_array d >>= all_found form.found;
  is_in = λ xs. list_all form.is_in xs;
  texts = texts_of form.texts;
}

-- ---- objects

-- the members of an object, in byte order of their names
pub record Fields (A : Type 0) : Type 0 where
  -- their names
  pub names : List (List ℕ)
  pub members : A → Members
  -- what an object is taken for
  pub found : Data → Option A
  pub is_in : A → Bool
  pub texts : A → List (List ℕ)

-- no member
abbrev pub none : Fields (Unit {0})
none = record { names = []; members = λ _. no_members; found = λ d. Some tt; is_in = λ _. true; texts = λ _. [] }

-- a member of this name and form, before others
abbrev pub field : {A B : Type 0} → List ℕ → Form A → Fields B → Fields (A × B)
field name form rest = record {
  names = name ∷ rest.names;
  members = λ p. member name (form.value p.0) (rest.members p.1);
  found = λ d. do
    x ← get name d >>= form.found
    xs ← rest.found d
    Some (x, xs);
  is_in = λ p. form.is_in p.0 && rest.is_in p.1;
  texts = λ p. form.texts p.0 ++ rest.texts p.1;
}

-- a member that is the same in each object, before others
abbrev pub fixed : {B : Type 0} → List ℕ → Data → Fields B → Fields B
fixed name value rest = record {
  names = name ∷ rest.names;
  members = λ xs. member name value (rest.members xs);
  found = rest.found;
  is_in = rest.is_in;
  texts = rest.texts;
}

-- a member that may be absent
abbrev pub member_if : {A : Type 0} → List ℕ → (A → Data) → Option A → Members → Members
member_if name value None rest = rest
member_if name value (Some x) rest = member name (value x) rest

-- what such a member is taken for
abbrev pub found_if : {A : Type 0} → (Data → Option A) → Option Data → Option (Option A)
found_if found None = Some None
found_if found (Some d) = option_map (λ x. Some x) (found d)

abbrev pub is_in_if : {A : Type 0} → (A → Bool) → Option A → Bool
is_in_if is_in None = true
is_in_if is_in (Some x) = is_in x

abbrev pub texts_if : {A : Type 0} → (A → List (List ℕ)) → Option A → List (List ℕ)
texts_if texts None = []
texts_if texts (Some x) = texts x

abbrev pub optional : {A B : Type 0} → List ℕ → Form A → Fields B → Fields (Option A × B)
optional name form rest = record {
  names = name ∷ rest.names;
  members = λ p. member_if name form.value p.0 (rest.members p.1);
  found = λ d. do
    x ← found_if form.found (get name d)
    xs ← rest.found d
    Some (x, xs);
  is_in = λ p. is_in_if form.is_in p.0 && rest.is_in p.1;
  texts = λ p. texts_if form.texts p.0 ++ rest.texts p.1;
}

-- a list, unless it is empty
abbrev pub if_any : {A : Type 0} → List A → Option (List A)
if_any [] = None
if_any (x ∷ xs) = Some (x ∷ xs)

-- what the member that is such a list is taken for
abbrev pub found_or_empty : {A : Type 0} → (Data → Option (List A)) → Option Data → Option (List A)
found_or_empty found None = Some []
found_or_empty found (Some d) = found d

-- a member that is a list, and absent where that is empty, before others
abbrev pub unless_empty : {A B : Type 0} → List ℕ → Form A → Fields B → Fields (List A × B)
unless_empty name form rest = record {
  names = name ∷ rest.names;
  members = λ p. member_if name (list form).value (if_any p.0) (rest.members p.1);
  found = λ d. do
    xs ← found_or_empty (list form).found (get name d)
    ys ← rest.found d
    Some (xs, ys);
  is_in = λ p. (list form).is_in p.0 && rest.is_in p.1;
  texts = λ p. (list form).texts p.0 ++ rest.texts p.1;
}

-- the object of these members
abbrev pub object_of : {A : Type 0} → Fields A → Form A
object_of fields = record {
  value = λ x. object (fields.members x);
  found = fields.found;
  is_in = fields.is_in;
  texts = fields.texts;
}

-- one of two kinds of objects; something in the object says which it is
abbrev pub left_or_right : {A B : Type 0} → (Data → Option A) → (Data → Option B) → Bool → Data → Option (A ⊎ B)
left_or_right left right true d = option_map (λ x. inl x) (left d)
left_or_right left right false d = option_map (λ y. inr y) (right d)

abbrev pub members_either : {A B : Type 0} → Fields A → Fields B → A ⊎ B → Members
members_either left right (inl x) = left.members x
members_either left right (inr y) = right.members y

abbrev pub is_in_either : {A B : Type 0} → Fields A → Fields B → A ⊎ B → Bool
is_in_either left right (inl x) = left.is_in x
is_in_either left right (inr y) = right.is_in y

abbrev pub texts_either : {A B : Type 0} → Fields A → Fields B → A ⊎ B → List (List ℕ)
texts_either left right (inl x) = left.texts x
texts_either left right (inr y) = right.texts y

abbrev pub either : {A B : Type 0} → (Data → Option Bool) → Fields A → Fields B → Form (A ⊎ B)
either is_left left right = record {
  value = λ x. object (members_either left right x);
  found = λ d. is_left d >>= (λ b. left_or_right left.found right.found b d);
  is_in = is_in_either left right;
  texts = texts_either left right;
}

-- ---- the same value in other words

-- values that are written as others are, and made of them, where they can be
abbrev pub made_of : {A B : Type 0} → (B → A) → (A → Option B) → Form A → Form B
made_of parts made form = record {
  value = λ x. form.value (parts x);
  found = λ d. form.found d >>= made;
  is_in = λ x. form.is_in (parts x);
  texts = λ x. form.texts (parts x);
}
