-- How many bytes a JSON value is written in: a bound that adds up.
use Rattle.text_laws.proofs.Common.{[], All-head, All-tail, ap, arith, array, Bool, boolean, cond, Data, false, float, IsPlain, IsPlainByte, item, Items, items_of, length, List, lit<, member, Members, nat_lt, negative, negsuc, no_items, no_members, null, number, object, PlainTextsStand, pos, refl, string, suc, sum_by, TextsAreEscaped, true, unsigned, written_length, ℕ, ◌%◌, ◌*◌, ◌++◌, ◌+◌, ◌/◌, ◌∷◌, ◌≡◌, ◌≤◌}
use Rattle.std.proofs.Common.{length-append}
use Rattle.std.proofs.lemmas.Fmt.{length-decimal-le}
use Rattle.std.proofs.lemmas.List.Sums.{sum_by-cons}
use Rattle.std.specs.Char.{digit_char}
use Rattle.json.specs.Print.{escape, escape_byte, escape_letter, quoted}
use Rattle.json.proofs.Printed.Strings.{escape_byte_plain}
use Rattle.serde_json.specs.Written.{comma_if, compact_text, items_text, members_text}
use Rattle.message_parts.specs.Written.{HasSmallNumbers, ItemsHaveSmallNumbers, MembersHaveSmallNumbers}

-- ---- texts

length-escape_byte : (x : ℕ) → length (escape_byte x) ≤ 6
unfolding escape_byte
length-escape_byte x = grind arith

length-escape : (s : List ℕ) → length (escape s) ≤ 6 * length s
length-escape [] = omega arith
length-escape (x ∷ s) = omega (arith, length-escape s, length-escape_byte x, length-append (escape_byte x) (escape s))

pub texts_are_escaped : TextsAreEscaped
texts_are_escaped text = omega (arith, length-escape text, length-append (escape text) (34 ∷ []))

escape_plain : (s : List ℕ) → IsPlain s → escape s ≡ s
escape_plain [] h = refl
escape_plain (x ∷ s) h =
    let first = All-head IsPlainByte x s h in
    rw (escape_byte_plain x first.2 first.3 first.0) (ap (λ r. x ∷ r) (escape_plain s (All-tail IsPlainByte x s h)))

pub plain_texts_stand : PlainTextsStand
plain_texts_stand text h = rw (escape_plain text h) (omega (arith, length-append text (34 ∷ [])))

-- ---- values

-- at most this many bytes
abbrev mutual
  pub size : Data → ℕ
  size null = 4
  size (boolean b) = 5
  size (number n) = 20
  size (string s) = written_length s
  size (array ds) = 2 + items_size ds
  size (object ms) = 2 + members_size ms

  -- each with a comma before it
  pub items_size : Items → ℕ
  items_size no_items = 0
  items_size (item d ds) = 1 + size d + items_size ds

  -- each with a comma before it, and a colon after its name
  pub members_size : Members → ℕ
  members_size no_members = 0
  members_size (member k d ms) = 2 + written_length k + size d + members_size ms

length-comma_if : (later : Bool) → length (comma_if later) ≤ 1
length-comma_if true = omega arith
length-comma_if false = omega arith

mutual
  pub length-compact_text : (d : Data) → HasSmallNumbers d → length (compact_text d) ≤ size d
  length-compact_text null h = omega arith
  length-compact_text (boolean true) h = omega arith
  length-compact_text (boolean false) h = omega arith
  length-compact_text (number (unsigned n)) h = length-decimal-le 20 n (lit< tt) (omega (arith, h)) h
  length-compact_text (number (negative (pos n))) h = absurd h
  length-compact_text (number (negative (negsuc n))) h =
      omega (arith, length-decimal-le 19 (suc n) (lit< tt) (omega (arith, h)) (omega (arith, h)))
  length-compact_text (number (float x)) h = absurd h
  length-compact_text (string s) h = omega arith
  length-compact_text (array ds) h = omega (arith, length-items_text false ds h)
  length-compact_text (object ms) h = omega (arith, length-members_text false ms h)

  length-items_text : (later : Bool) (ds : Items) → ItemsHaveSmallNumbers ds → length (items_text later ds) ≤ 1 + items_size ds
  length-items_text later no_items h = omega arith
  length-items_text later (item d ds) h =
      omega (arith, length-comma_if later, length-compact_text d h.0, length-items_text true ds h.1, length-append {A = ℕ})

  length-members_text : (later : Bool) (ms : Members) → MembersHaveSmallNumbers ms → length (members_text later ms) ≤ 1 + members_size ms
  length-members_text later no_members h = omega arith
  length-members_text later (member k d ms) h =
      let rest : List ℕ = 58 ∷ (compact_text d ++ members_text true ms) in
      omega (arith, length-comma_if later, length-compact_text d h.0, length-members_text true ms h.1, length-append {A = ℕ}, length-append (quoted k) rest)

-- items, by what each has with its comma
pub items_size-items_of : {A : Type 0} (value : A → Data) (most : A → ℕ) → ((x : A) → 1 + size (value x) ≤ most x) → (xs : List A)
    → items_size (items_of value xs) ≤ sum_by most xs
items_size-items_of value most h [] = omega arith
items_size-items_of value most h (x ∷ xs) = omega (arith, h x, items_size-items_of value most h xs, sum_by-cons most x xs)
