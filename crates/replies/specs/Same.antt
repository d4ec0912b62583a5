-- For `exact` of `read_message` and private clauses: whether two JSON values are one.
--
-- A float is the same as nothing, itself included: no message of the adapter has one.
use Rattle.std.specs.Prelude.{Bool, true, false, not, ◌&&◌, nat_eq}
use Rattle.std.specs.Ordering.{int_eq}
use Rattle.std.specs.Str.{bytes_eq}
use Rattle.serde_json.specs.Data.{Num, unsigned, negative, Data, null, boolean, number, string, array, object, Items}
use Rattle.serde_json.specs.Data.{no_items, item, Members, no_members, member}

-- two truth values
abbrev pub is_same_truth : Bool → Bool → Bool
is_same_truth true b = b
is_same_truth false b = not b

-- two numbers
abbrev pub is_same_number : Num → Num → Bool
is_same_number (unsigned m) (unsigned n) = nat_eq m n
is_same_number (negative m) (negative n) = int_eq m n
is_same_number _ _ = false

abbrev mutual
  -- two values
  pub is_same : Data → Data → Bool
  is_same null null = true
  is_same (boolean a) (boolean b) = is_same_truth a b
  is_same (number m) (number n) = is_same_number m n
  is_same (string s) (string t) = bytes_eq s t
  is_same (array ds) (array es) = are_same_items ds es
  is_same (object ms) (object ns) = are_same_members ms ns
  is_same _ _ = false

  -- two lists of items
  pub are_same_items : Items → Items → Bool
  are_same_items no_items no_items = true
  are_same_items (item d ds) (item e es) = is_same d e && are_same_items ds es
  are_same_items _ _ = false

  -- two lists of members
  pub are_same_members : Members → Members → Bool
  are_same_members no_members no_members = true
  are_same_members (member k d ms) (member l e ns) = bytes_eq k l && (is_same d e && are_same_members ms ns)
  are_same_members _ _ = false
