-- What is read is divided by the rules.
use Rattle.statements.proofs.Common.{[], all_append, AllBlank, and_left, and_right, ap, append-nil, append_assoc, are_operands, bare, begins_blank, cases_Bool, cond-false, cond-true, drop, eqb-true, Err, fields, inl, inr, is_blank, is_name, IsSpoken, IsStatement, join_with_byte, join_with_byte-slice_split, label_before, Labelled, labels_of, labels_with, length, line_of, List, list_all, None, Option, position, position-Some, refl, rest_of, rest_with, round, said, said_at, says, Some, Spoken, stated, statement_in, stating, subst, sym, Syntax, take, take-append-drop, trimmed, trimmed_bare, without_comment, ℕ, ⊎_elim, ◌&&◌, ◌++◌, ◌<◌, ◌==◌, ◌∙◌, ◌∷◌, ◌≡◌, ◌⊎◌}
use Rattle.statements.specs.Reading.{read}
use Rattle.std.proofs.lemmas.List.{drop_more, nil_from_length}
use Rattle.statements.proofs.Dividing.{label_begins}
use Rattle.statements.proofs.Fields.{cases_found}

labels_divide : (list : List (List ℕ)) → Labelled (labels_of list) (join_with_byte 58 list) (rest_of list)
labels_divide [] = refl
labels_divide (field ∷ []) = refl
labels_divide (field ∷ next ∷ list) =
    let after : List ℕ = join_with_byte 58 (next ∷ list) in
    let text : List ℕ = field ++ 58 ∷ after in
    cases_found (λ o. Labelled (labels_with o (labels_of (next ∷ list))) text (rest_with o text (rest_of (next ∷ list)))) (label_before field)
    (λ e. refl) (λ label e. (after, (label_begins field after label e, labels_divide (next ∷ list))))

abbrev Divides : List ℕ → Type 0
Divides rest =
    ((s : Option Spoken) × (IsSpoken s rest × (statement_in (trimmed rest) ≡ says s))) ⊎ (statement_in (trimmed rest) ≡ Err Syntax)

-- a text is parted so, and is a statement as far as its parts are a name and operands
parts_divide : (rest w gap o last : List ℕ) → trimmed rest ≡ w ++ (gap ++ o ++ last) → AllBlank gap → AllBlank last
    → (0 < length o → 0 < length gap) → trimmed o ≡ o → statement_in (trimmed rest) ≡ stating (said w o) → Divides rest
parts_divide rest w gap o last parts a b apart bare stated =
    let t = round rest in
    let whole : rest ≡ t.before ++ (w ++ (gap ++ o ++ last)) ++ t.after = t.parted
    ∙ ap (λ (l : List ℕ). t.before ++ l ++ t.after) parts in
    ⊎_elim (λ n. let statement : IsStatement w o rest = record {
      before = t.before;
      gap = gap;
      after = last ++ t.after;
      blank_before = t.blank_before;
      blank_gap = a;
      blank_after = all_append is_blank last t.after b t.blank_after;
      name = and_left (is_name w) _ n;
      apart = apart;
      bare = bare;
      each = and_right (is_name w) _ n;
      spelled = whole ∙ simp append_assoc;
    } in inl (Some (w, o), (statement, stated ∙ ap stating (cond-true _ _ _ n))))
    (λ n. inr (stated ∙ ap stating (cond-false _ _ _ n))) (cases_Bool (is_name w && are_operands o))

spoken_divides : (rest : List ℕ) → Divides rest
spoken_divides rest =
    let r : List ℕ = trimmed rest in
    let t = round rest in
    ⊎_elim (λ e.
    let blank : AllBlank rest = ap (list_all is_blank)
    (t.parted ∙ ap (λ (l : List ℕ). t.before ++ l ++ t.after) (nil_from_length r (eqb-true (length r) 0 e)))
    ∙ all_append is_blank (t.before ++ []) t.after (all_append is_blank t.before [] t.blank_before refl) t.blank_after in
    inl (None, (blank, cond-true (length r == 0) _ _ e)))
    (λ e. cases_found (λ _. Divides rest) (position is_blank r)
    (λ at. parts_divide rest r [] [] [] (sym (append-nil r)) refl refl (λ h. h) refl
    (cond-false (length r == 0) _ _ e ∙ ap (λ p. stating (said_at r p)) at))
    (λ i at.
    let u = round (drop i r) in
    let found = position-Some is_blank r i 0 at in
    parts_divide rest (take i r) u.before (trimmed (drop i r)) u.after
    (sym (take-append-drop i r) ∙ ap (λ (l : List ℕ). take i r ++ l) u.parted) u.blank_before u.blank_after
    (λ h. u.some (ap begins_blank (drop_more r i 0 found.0) ∙ found.1)) (trimmed_bare (drop i r))
    (cond-false (length r == 0) _ _ e ∙ ap (λ p. stating (said_at r p)) at)))
    (cases_Bool (length r == 0))

pub returns : Rattle.statements.proofs.laws.only_lines_are_read.Goals.returns
unfolding read
returns c line right =
    let text = without_comment line in
    let list = fields 58 text in
    let labelled : Labelled (labels_of list) text (rest_of list) = subst (λ x. Labelled (labels_of list) x (rest_of list))
    (join_with_byte-slice_split 58 text) (labels_divide list) in
    ⊎_elim (λ s. (
      record { labels = labels_of list; spoken = s.0 },
      (record { rest = rest_of list; labelled = labelled; spoken = s.1.0 }, ap (line_of (labels_of list)) s.1.1),
    ))
    (λ e. absurd (right (ap (line_of (labels_of list)) e))) (spoken_divides (rest_of list))
