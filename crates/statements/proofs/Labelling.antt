-- The labels that a text begins with.
use Rattle.statements.proofs.Common.{[], ap, append_assoc, fields, join_with_byte, join_with_byte-slice_split, label_before, labels_of, List, None, parted, refl, rest_of, Some, sym, ℕ, ◌++◌, ◌∙◌, ◌∷◌, ◌≡◌}
use Rattle.byte_strings.proofs.Divided.{fields_none, fields_some, shape}

-- without a colon there is no label
pub no_colon : (text : List ℕ) → parted 58 text ≡ None → (labels_of (fields 58 text) ≡ []) × (rest_of (fields 58 text) ≡ text)
no_colon text h = (ap labels_of (fields_none 58 text h), ap rest_of (fields_none 58 text h))

-- two fields at least
two : (text prefix rest : List ℕ) → parted 58 text ≡ Some (prefix, rest) → fields 58 text ≡ prefix ∷ (shape 58 rest).0 ∷ (shape 58 rest).1
two text prefix rest h = fields_some 58 text prefix rest h ∙ ap (λ (l : List (List ℕ)). prefix ∷ l) (shape 58 rest).2

-- what stands before the colon is no label
pub no_label : (text prefix rest : List ℕ) → parted 58 text ≡ Some (prefix, rest) → label_before prefix ≡ None
    → (labels_of (fields 58 text) ≡ []) × (rest_of (fields 58 text) ≡ text)
no_label text prefix rest h t =
    let all = two text prefix rest h in
    (rw (all, t) refl, rw (all, t) (sym (ap (join_with_byte 58) all) ∙ join_with_byte-slice_split 58 text))

-- it is one
pub one_label : (text prefix rest label : List ℕ) → parted 58 text ≡ Some (prefix, rest) → label_before prefix ≡ Some label
    → (labels_of (fields 58 text) ≡ label ∷ labels_of (fields 58 rest)) × (rest_of (fields 58 text) ≡ rest_of (fields 58 rest))
one_label text prefix rest label h t =
    let all = two text prefix rest h in
    let s = shape 58 rest in
    (rw (all, t) (sym (ap (λ l. label ∷ labels_of l) s.2)), rw (all, t) (sym (ap rest_of s.2)))

-- the labels so far, and those that are left
pub one_more : (all before after : List (List ℕ)) (text prefix rest label : List ℕ) → all ≡ before ++ labels_of (fields 58 text)
    → after ≡ before ++ label ∷ [] → parted 58 text ≡ Some (prefix, rest) → label_before prefix ≡ Some label
    → all ≡ after ++ labels_of (fields 58 rest)
one_more all before after text prefix rest label h p e t =
    h ∙ rw ((one_label text prefix rest label e t).0, p) (sym (append_assoc before (label ∷ []) (labels_of (fields 58 rest))))
