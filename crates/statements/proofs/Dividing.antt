-- What the rules divide is read as they divide it.
use Rattle.statements.proofs.Common.{[], all_append, all_gone, AllBlank, and_left, ap, append-nil, append_assoc, are_operands, arith, bare, begins_blank, BeginsWith, between, blanks_go, Division, drop, drop-append_seam, false, fields, is_blank, is_name, is_name_byte, IsLine, IsSpoken, label_before, Labelled, labels_of, led, length, length-append, line_of, List, list_all, means, mnemonic_of, nat_tests, None, not, Option, others_stay, parted, position, refl, rest_of, said_by, says, Some, Spoken, statement_in, stating, subst, sym, take-append_seam, trimmed, true, without_comment, without_leading_blanks, without_trailing_blanks, ℕ, ◌++◌, ◌<◌, ◌==◌, ◌∙◌, ◌∷◌, ◌≡◌}
use Rattle.statements.specs.Reading.{read}
use Rattle.statements.proofs.Fields.{cases_found}
use Rattle.statements.proofs.Labelling.{no_colon, no_label, one_label}
use Rattle.statements.proofs.Registers.{name_bytes, named_text}
use Rattle.statements.proofs.Runs.{Ends, all_right, bare_ends, begins_so, ends_after, ends_once, lacks, lacks_byte, names_not_blank, no_position, parted_joins, parts_join, position_at, stops, unblank_bare}

pub label_begins : (field after label : List ℕ) → label_before field ≡ Some label → BeginsWith label (field ++ 58 ∷ after) after
label_begins field after label h =
    let l = led field in
    let t = named_text (without_leading_blanks field) label (is_name (without_leading_blanks field)) (sym h) in
    record {
      before = l.blanks;
      blank = l.all;
      name = ap is_name t.1 ∙ t.0;
      spelled = ap (λ (x : List ℕ). x ++ 58 ∷ after) (l.parted ∙ ap (λ (x : List ℕ). l.blanks ++ x) (sym t.1));
    }

pub name_long : (name : List ℕ) → is_name name ≡ true → 0 < length name
name_long name h = grind arith

pub unempty : (text : List ℕ) → 0 < length text → (length text == 0) ≡ false
unempty text h = grind (arith, nat_tests)

name_begins : (name more : List ℕ) → is_name name ≡ true → begins_blank (name ++ more) ≡ false
name_begins name more h = begins_so name more (name_long name h) (names_not_blank name h)

-- without the blanks before it a text begins with its name
name_leads : (before name more : List ℕ) → AllBlank before → is_name name ≡ true
    → without_leading_blanks (before ++ (name ++ more)) ≡ name ++ more
name_leads before name more a n = blanks_go before (name ++ more) a ∙ others_stay (name ++ more) (name_begins name more n)

-- what stands after a mnemonic: nothing, or a blank first
after_mnemonic : (gap operands after : List ℕ) → AllBlank gap → AllBlank after → (0 < length operands → 0 < length gap)
    → stops (gap ++ (operands ++ after)) ≡ true
after_mnemonic (g ∷ gap) operands after a b apart = grind arith
after_mnemonic [] [] after a b apart = grind arith
after_mnemonic [] (o ∷ operands) after a b apart = grind arith

-- a statement, and a line of blanks, begins with no label
no_more : (rest label after : List ℕ) (s : Option Spoken) → IsSpoken s rest → BeginsWith label rest after → ⊥
no_more rest label after None blank b =
    let no : false ≡ true = all_right is_blank (b.before ++ label) (58 ∷ after) (sym (ap (list_all is_blank) b.spelled) ∙ blank) in cc
no_more rest label after (Some (mnemonic, operands)) st b =
    let x : List ℕ = st.gap ++ (operands ++ st.after) in
    let same : b.before ++ (label ++ 58 ∷ after) ≡ st.before ++ (mnemonic ++ x) =
    sym (b.spelled ∙ append_assoc b.before label (58 ∷ after)) ∙ st.spelled ∙ simp append_assoc in
    ends_once label mnemonic x after (name_bytes label b.name) (name_bytes mnemonic st.name)
    (after_mnemonic st.gap operands st.after st.blank_gap st.blank_after st.apart)
    (sym (name_leads b.before label (58 ∷ after) b.blank b.name) ∙ ap without_leading_blanks same
    ∙ name_leads st.before mnemonic x st.blank_before st.name)

labels_read : (labels : List (List ℕ)) (text rest : List ℕ) (s : Option Spoken) → Labelled labels text rest → IsSpoken s rest
    → (labels_of (fields 58 text) ≡ labels) × (rest_of (fields 58 text) ≡ rest)
labels_read [] text rest s h spoken =
    let Unlabelled : Type 0 = (labels_of (fields 58 text) ≡ []) × (rest_of (fields 58 text) ≡ text) in
    let n : Unlabelled = cases_found (λ _. Unlabelled) (parted 58 text) (no_colon text)
    (λ p e. cases_found (λ _. Unlabelled) (label_before p.0) (no_label text p.0 p.1 e)
    (λ label l. absurd (no_more rest label p.1 s spoken (subst (λ x. BeginsWith label x p.1)
    (sym (parted_joins 58 text p.0 p.1 e) ∙ h) (label_begins p.0 p.1 label l))))) in (n.0, n.1 ∙ h)
labels_read (label ∷ labels) text rest s (after, (b, others)) spoken =
    let prefix = b.before ++ label in
    let no : lacks 58 prefix ≡ true = all_append (λ c. not (c == 58)) b.before label (lacks_byte is_blank 58 b.before refl b.blank)
    (lacks_byte is_name_byte 58 label refl (name_bytes label b.name)) in
    let bare : without_leading_blanks prefix ≡ label = rw append-nil at (name_leads b.before label [] b.blank b.name) in
    let found : label_before prefix ≡ Some label = rw (bare, b.name) refl in
    let one = one_label text prefix after label (ap (parted 58) b.spelled ∙ parts_join 58 prefix after no) found in
    let more = labels_read labels after rest s others spoken in
    (one.0 ∙ ap (λ (l : List (List ℕ)). label ∷ l) more.0, one.1 ∙ more.1)

mnemonic_apart : (mnemonic gap operands : List ℕ) → is_name mnemonic ≡ true → AllBlank gap → 0 < length gap → trimmed operands ≡ operands
    → are_operands operands ≡ true → statement_in (mnemonic ++ (gap ++ operands)) ≡ stating (said_by (mnemonic_of mnemonic) operands)
mnemonic_apart mnemonic [] operands n blank some b each = absurd (omega arith)
mnemonic_apart mnemonic (g ∷ gap) operands n blank some b each =
    let rest : List ℕ = g ∷ (gap ++ operands) in
    let m : List ℕ = mnemonic ++ rest in
    let at : position is_blank m ≡ Some (length mnemonic) = position_at is_blank mnemonic (gap ++ operands) g
    (names_not_blank mnemonic n) (and_left (is_blank g) _ blank) in
    let o : trimmed (drop (length mnemonic) m) ≡ operands = ap trimmed (drop-append_seam mnemonic rest ∙ sym (append-nil rest))
    ∙ between (g ∷ gap) operands [] blank refl b in
    let long : (length m == 0) ≡ false = unempty m (omega (arith, length-append mnemonic rest)) in
    rw (long, at, take-append_seam mnemonic rest, o, n, each) refl

spoken_read : (rest : List ℕ) (s : Option Spoken) → IsSpoken s rest → statement_in (trimmed rest) ≡ says s
spoken_read rest None blank = ap statement_in (ap without_trailing_blanks (all_gone rest blank))
spoken_read rest (Some (mnemonic, [])) st =
    let plain = names_not_blank mnemonic st.name in
    let whole : rest ≡ st.before ++ mnemonic ++ (st.gap ++ st.after) = st.spelled ∙ simp (append_assoc, append-nil) in
    let t : trimmed rest ≡ mnemonic = ap trimmed whole ∙ between st.before mnemonic (st.gap ++ st.after) st.blank_before
    (all_append is_blank st.gap st.after st.blank_gap st.blank_after) (unblank_bare mnemonic plain) in
    ap statement_in t ∙ rw (unempty mnemonic (name_long mnemonic st.name), no_position is_blank mnemonic plain, st.name) refl
spoken_read rest (Some (mnemonic, c ∷ o)) st =
    let operands : List ℕ = c ∷ o in
    let m : List ℕ = mnemonic ++ (st.gap ++ operands) in
    let ends : Ends m = ends_after mnemonic _ (ends_after st.gap operands (bare_ends operands st.bare (omega arith))) in
    let whole : rest ≡ st.before ++ m ++ st.after = st.spelled ∙ simp append_assoc in
    ap statement_in (ap trimmed whole ∙ between st.before m st.after st.blank_before st.blank_after
    (bare m (name_begins mnemonic (st.gap ++ operands) st.name) ends.0))
    ∙ mnemonic_apart mnemonic st.gap operands st.name st.blank_gap (st.apart (omega arith)) st.bare st.each

pub lines_read : (line : List ℕ) (d : Division) → IsLine (without_comment line) d → read line ≡ means d
unfolding read
lines_read line d h =
    let l = labels_read d.labels (without_comment line) h.rest d.spoken h.labelled h.spoken in
    rw (l.0, l.1) (ap (line_of d.labels) (spoken_read h.rest d.spoken h.spoken))
