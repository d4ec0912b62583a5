-- The names of registers.
use Rattle.statements.proofs.Common.{[], all_below_at, and_left, and_parts, and_right, arith, Bool, bytes_eq, bytes_eq-Decides, codes, false, false_from_ne_true, first_named, get_or, if◌then◌else◌, index_of, inl, inr, is_name, is_name_byte, IsUtf8, length, List, list_all, lit<, Mnemonic, name_of, named, names, Names, nat_tests, None, numbered_name_of, numbered_names, Option, or_else, position-Some, refl, register_of, Some, true, ℕ, ◌&&◌, ◌<◌, ◌==◌, ◌∙◌, ◌∷◌, ◌≡◌}
use Rattle.byte_strings.proofs.Below.{all_below}
use Rattle.std.proofs.lemmas.List.Sums.{AllPass-from_list_all}
use Rattle.std.proofs.lemmas.Str.{IsUtf8-from_ascii}
use Rattle.std.proofs.lemmas.Str.Ascii.{IsAscii-from_all}
use Rattle.statements.proofs.Fields.{cases_found}

-- the bytes of names
pub name_bytes : (name : List ℕ) → is_name name ≡ true → list_all is_name_byte name ≡ true
name_bytes [] h = cc
name_bytes (b ∷ name) h = grind arith

-- a name is UTF-8
pub name_is_utf8 : (text : List ℕ) → is_name text ≡ true → IsUtf8 text
name_is_utf8 text h =
    let each = AllPass-from_list_all is_name_byte text (name_bytes text h) in
    IsUtf8-from_ascii text (IsAscii-from_all text (λ k d l. let t = each k d l in grind (arith, nat_tests)))

unfoldable pub is_index : Option ℕ → ℕ → Bool
is_index None n = false
is_index (Some m) n = m == n

pub index_is : (o : Option ℕ) (n : ℕ) → is_index o n ≡ true → o ≡ Some n
unfolding is_index
index_is o n h = grind (arith, nat_tests)

-- each register has its names, and they are names
is_named : List ℕ → ℕ → Bool
is_named name n = is_index (register_of name) n && is_name name

both_named : (n : ℕ) → n < 32 → (is_named (name_of n) n && is_named (numbered_name_of n) n) ≡ true
unfolding all_below is_named is_index
both_named n l = all_below_at (λ n. is_named (name_of n) n && is_named (numbered_name_of n) n) 32 n refl l

named_right : (name : List ℕ) (n : ℕ) → Names name n → is_named name n ≡ true
unfolding is_named is_index
named_right name n (l, inl e) = rw e (and_left (is_named (name_of n) n) _ (both_named n l))
named_right name n (l, inr (inl e)) = rw e (and_right (is_named (name_of n) n) _ (both_named n l))
named_right name n (l, inr (inr (e, f))) = rw (e, f) refl

-- a name of a register is found to be that register's, and is a name
pub register_named : (name : List ℕ) (n : ℕ) → Names name n → register_of name ≡ Some n
unfolding is_named
register_named name n h = index_is (register_of name) n (and_left _ _ (named_right name n h))

pub named_is_name : (name : List ℕ) (n : ℕ) → Names name n → is_name name ≡ true
unfolding is_named
named_is_name name n h = and_right (is_index (register_of name) n) _ (named_right name n h)

-- what is in no list has no index
no_index : (name : List ℕ) (list : List (List ℕ)) → ((i : ℕ) → i < length list → name ≡ get_or list i [] → ⊥) → index_of name list ≡ None
no_index name list h =
    cases_found (λ o. o ≡ None) (index_of name list) (λ e. refl) (λ i e.
    let at = position-Some (λ other. bytes_eq name other) list i [] e in
    absurd (h i at.0 ((bytes_eq-Decides name (get_or list i [])).0 at.1)))

pub differs : (text other : List ℕ) → (text ≡ other → ⊥) → bytes_eq text other ≡ false
differs text other h = false_from_ne_true (bytes_eq text other) (λ e. h ((bytes_eq-Decides text other).0 e))

-- and what names no register is not found
pub register_none : (name : List ℕ) → ((n : ℕ) → Names name n → ⊥) → register_of name ≡ None
register_none name h =
    let plain : index_of name names ≡ None = no_index name names (λ i l e. h i (l, inl e)) in
    let numbered : index_of name numbered_names ≡ None = no_index name numbered_names (λ i l e. h i (l, inr (inl e))) in
    rw (plain, numbered, differs name (codes "fp") (λ e. h 8 (lit< tt, inr (inr (e, refl))))) refl

-- what a text is that was looked at as a name
pub named_text : (text name : List ℕ) (t : Bool) → Some name ≡ (if t then Some text else None) → (t ≡ true) × (name ≡ text)
named_text text name t h = grind arith

-- what stands in a table has what holds of each of its rows
pub row_is : {A : Type 0} (p : List ℕ → A → Bool) (rows : List (List ℕ × A)) (text : List ℕ) (a : A)
    → list_all (λ row. p row.0 row.1) rows ≡ true → named rows text ≡ Some a → p text a ≡ true
row_is p [] text a all h = cc
row_is p (row ∷ rows) text a all h = grind (arith, (bytes_eq-Decides text row.0).0, row_is p rows text a)

pub table_is : (p : List ℕ → Mnemonic → Bool) (tables : List (List (List ℕ × Mnemonic))) (text : List ℕ) (mnemonic : Mnemonic)
    → list_all (λ table. list_all (λ row. p row.0 row.1) table) tables ≡ true → first_named tables text ≡ Some mnemonic
    → p text mnemonic ≡ true
table_is p [] text mnemonic all h = cc
table_is p (table ∷ tables) text mnemonic all h =
    let each = and_parts (list_all (λ row. p row.0 row.1) table) _ all in
    cases_found (λ o. or_else o (first_named tables text) ≡ Some mnemonic → p text mnemonic ≡ true) (named table text)
    (λ e k. table_is p tables text mnemonic each.1 k) (λ m e k. row_is p table text mnemonic each.0 (e ∙ k)) h
