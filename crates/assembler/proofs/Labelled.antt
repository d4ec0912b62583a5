-- Labels in a map by name, and in a list in the order of the text.
use Rattle.assembler.proofs.Common.{[], ap, arith, bytes_eq, cond, entry_of, false, first_of, first_start, get_or, labels_of, length, List, map, named, None, Option, or_first, refl, Row, Some, start, String, ℕ, ◌++◌, ◌<◌, ◌∙◌, ◌∷◌, ◌≡◌, ◌≤◌}
use Rattle.std.specs.Map.{lookup}
use Rattle.std.specs.Option.{is_some}
use Rattle.std.specs.String.{string_bytes, string_eq}
use Rattle.indexmap.specs.IndexMap.{get, IndexMap, insert_entry}
use Rattle.indexmap.proofs.CallerLemmas.{insert_entry-new}

-- what a look-up by name finds is what stands beside the name in the list
pub looked_up : {Z : Type 0} (entries : List (String Z × ℕ)) (name : List ℕ)
    → lookup (λ (k : String Z). bytes_eq name (string_bytes k)) entries ≡ named (labels_of entries) name
looked_up [] name = refl
looked_up (e ∷ es) name = ap (λ r. cond (bytes_eq name (string_bytes e.0)) (Some e.1) r) (looked_up es name)

map_push : {A B : Type 0} (f : A → B) (list : List A) (a : A) → map f (list ++ a ∷ []) ≡ map f list ++ f a ∷ []
map_push f [] a = refl
map_push f (x ∷ xs) a = ap (λ l. f x ∷ l) (map_push f xs a)

-- a label is added to a map after the others
pub labels_of-push : {Z : Type 0} (entries : List (String Z × ℕ)) (key : String Z) (address : ℕ)
    → labels_of (entries ++ (key, address) ∷ []) ≡ labels_of entries ++ (string_bytes key, address) ∷ []
labels_of-push {Z} entries key address =
    let f : (String Z × ℕ) → (List ℕ × ℕ) = λ e. (string_bytes e.0, e.1) in map_push f entries (key, address)

nothing : {A : Type 0} (o : Option A) → is_some o ≡ false → o ≡ None
nothing None h = refl
nothing (Some a) h = cc

-- a label that no entry has, added to a map
pub added : {Z S : Type 0} (before after : IndexMap (String Z) ℕ S) (key : String Z) (name : List ℕ) (address : ℕ) → string_bytes key ≡ name
    → is_some (named (labels_of before.entries) name) ≡ false → after.entries ≡ insert_entry string_eq before.entries key address
    → labels_of after.entries ≡ labels_of before.entries ++ (name, address) ∷ []
added {Z} before after key name address spelled none entries =
    let gone : get string_eq before key ≡ None = looked_up before.entries (string_bytes key) ∙ ap (named (labels_of before.entries)) spelled
    ∙ nothing (named (labels_of before.entries) name) none in
    let put : after.entries ≡ before.entries ++ (key, address) ∷ [] = entries ∙ insert_entry-new string_eq before key address gone in
    ap labels_of put ∙ labels_of-push before.entries key address ∙ ap (λ n. labels_of before.entries ++ (n, address) ∷ []) spelled

-- ---- where a program starts

pub entry_some : {Z : Type 0} (entries : List (String Z × ℕ)) (rows : List Row) (address : ℕ)
    → Some address ≡ lookup (λ (k : String Z). bytes_eq start (string_bytes k)) entries → address ≡ entry_of (labels_of entries) rows
entry_some entries rows address h = ap (λ o. or_first (first_of o (first_start rows))) (h ∙ looked_up entries start)

pub entry_none : {Z : Type 0} (entries : List (String Z × ℕ)) (rows : List Row)
    → None ≡ lookup (λ (k : String Z). bytes_eq start (string_bytes k)) entries
    → or_first (first_start rows) ≡ entry_of (labels_of entries) rows
entry_none entries rows h = ap (λ o. or_first (first_of o (first_start rows))) (h ∙ looked_up entries start)

pub no_rows : (rows : List Row) → length rows < 1 → 65536 ≡ or_first (first_start rows)
no_rows [] h = refl
no_rows (row ∷ rows) h = absurd (omega arith)

pub some_rows : (rows : List Row) (d : Row) → 1 ≤ length rows → (get_or rows 0 d).1 ≡ or_first (first_start rows)
some_rows [] d h = absurd (omega arith)
some_rows (row ∷ rows) d h = refl
