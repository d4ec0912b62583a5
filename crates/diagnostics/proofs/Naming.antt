-- Labels that are added to others, which may have some of their names.
use Rattle.diagnostics.proofs.Common.{[], ap, append-nil, append_assoc, Bool, defines_twice, false, is_some, Label, List, map, named, or_parts, refl, sym, true, with_label, with_labels, ℕ, ◌++◌, ◌||◌, ◌∙◌, ◌∷◌, ◌≡◌}

-- labels are all added where none is defined again
pub with_labels_new : (address : ℕ) (before : List Label) (names : List (List ℕ)) → defines_twice address before names ≡ false
    → with_labels before address names ≡ before ++ map (λ name. (name, address)) names
with_labels_new address before [] h = sym (append-nil before)
with_labels_new address before (name ∷ names) h =
    let parts = or_parts (is_some (named before name)) (defines_twice address (before ++ (name, address) ∷ []) names) h in
    let new : with_label before address name ≡ before ++ (name, address) ∷ [] = rw parts.0 refl in
    ap (λ (l : List Label). with_labels l address names) new
    ∙ with_labels_new address (before ++ (name, address) ∷ []) names parts.1
    ∙ append_assoc before ((name, address) ∷ []) (map (λ n. (n, address)) names)

once_true : (again later : Bool) → ((again || true) || later) ≡ (again || true)
once_true true later = refl
once_true false later = refl

once_false : (again later : Bool) → ((again || false) || later) ≡ (again || later)
once_false true later = refl
once_false false later = refl

-- whether one of some names is defined again, after the first of them was added
pub again_more : (again : Bool) (address : ℕ) (before : List Label) (name : List ℕ) (names : List (List ℕ))
    → ((again || is_some (named before name)) || defines_twice address (with_label before address name) names)
    ≡ (again || defines_twice address before (name ∷ names))
again_more again address before name names =
    let P : Bool → Type 0 = λ t. is_some (named before name) ≡ t
    → ((again || is_some (named before name)) || defines_twice address (with_label before address name) names)
    ≡ (again || defines_twice address before (name ∷ names)) in
    let go : P (is_some (named before name)) = elim (is_some (named before name)) as P [
      | true ↦ λ t. rw t (once_true again (defines_twice address before names))
      | false ↦ λ t. rw t (once_false again (defines_twice address (before ++ (name, address) ∷ []) names))
    ] in go refl
