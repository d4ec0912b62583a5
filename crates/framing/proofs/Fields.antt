-- Header parts and their fields.
use Rattle.framing.proofs.Common.{[], all_append, and_both, and_left, and_right, ap, append-nil, append_assoc, arith, Bool, drop-drop, drop_at, drop_more, end_of, end_of_line, eqb, Field, field_at, field_in, fields_in, flat_map, header_of, is_field, is_name, is_name_byte, is_value_byte, length, length-append, length_fields, line_of, lines_of, List, list_all, map, nat_tests, None, not, onto_first, Option, position, prefix_len, refl, Some, suc, sym, take-append-drop, take_at, true, with_field, ℕ, ◌++◌, ◌+◌, ◌∙◌, ◌∷◌, ◌≡◌}
use Rattle.framing.proofs.Ends.{end_mark}
use Rattle.std.proofs.lemmas.Grind.{common_steps}
use Rattle.std.proofs.lemmas.List.Quantifiers.{position-Some}

-- the text of a field, without the end of its line
abbrev pub text_of_field : Field → List ℕ
text_of_field f = f.name ++ 58 ∷ f.value

-- the text of a header part, without the end of the last line and the empty line
abbrev pub text_of_fields : Field → List Field → List ℕ
text_of_fields f [] = text_of_field f
text_of_fields f (g ∷ fields) = text_of_field f ++ 13 ∷ 10 ∷ text_of_fields g fields

-- a header part is the text of its fields and an end
pub header_is : (f : Field) (fields : List Field) → header_of (f ∷ fields) ≡ text_of_fields f fields ++ end_mark
header_is f [] = simp append_assoc
header_is f (g ∷ fields) =
    append_assoc (line_of f) (flat_map line_of (g ∷ fields)) end_of_line ∙ ap (λ (x : List ℕ). line_of f ++ x) (header_is g fields)
    ∙ simp append_assoc

-- no byte is CR
abbrev pub not_cr : ℕ → Bool
not_cr b = not (eqb b 13)

name_not_cr : (b : ℕ) → is_name_byte b ≡ true → not_cr b ≡ true
name_not_cr b h = grind (arith, nat_tests)

value_not_cr : (b : ℕ) → is_value_byte b ≡ true → not_cr b ≡ true
value_not_cr b h = grind (arith, nat_tests)

pub all_from : (p q : ℕ → Bool) → ((b : ℕ) → p b ≡ true → q b ≡ true) → (xs : List ℕ) → list_all p xs ≡ true → list_all q xs ≡ true
all_from p q f [] h = refl
all_from p q f (x ∷ xs) h = and_both _ _ (f x (and_left (p x) _ h)) (all_from p q f xs (and_right (p x) _ h))

name_all : (name : List ℕ) → is_name name ≡ true → list_all is_name_byte name ≡ true
name_all name h = and_right (not (eqb (length name) 0)) _ h

field_not_cr : (f : Field) → is_field f ≡ true → list_all not_cr (text_of_field f) ≡ true
field_not_cr f h =
    all_append not_cr f.name (58 ∷ f.value)
    (all_from is_name_byte not_cr name_not_cr f.name (name_all f.name (and_left _ _ h)))
    (all_from is_value_byte not_cr value_not_cr f.value (and_right (is_name f.name) _ h))

-- lines without CR
line_next : (c : ℕ) (text : List ℕ) → not_cr c ≡ true → lines_of (c ∷ text) ≡ onto_first c (lines_of text)
line_next c text h = grind (arith, nat_tests)

line_first : (text more : List ℕ) (lines : List (List ℕ)) → list_all not_cr text ≡ true → lines_of more ≡ [] ∷ lines
    → lines_of (text ++ more) ≡ text ∷ lines
line_first [] more lines h e = e
line_first (c ∷ text) more lines h e = grind (arith, line_next c (text ++ more), line_first text more lines)

pub lines_are : (f : Field) (fields : List Field) → list_all is_field (f ∷ fields) ≡ true
    → lines_of (text_of_fields f fields) ≡ map text_of_field (f ∷ fields)
lines_are f [] h =
    ap lines_of (sym (append-nil (text_of_field f))) ∙ line_first (text_of_field f) [] [] (field_not_cr f (and_left (is_field f) _ h)) refl
lines_are f (g ∷ fields) h =
    line_first (text_of_field f) (13 ∷ 10 ∷ text_of_fields g fields) (lines_of (text_of_fields g fields))
    (field_not_cr f (and_left (is_field f) _ h)) refl
    ∙ ap (λ (ls : List (List ℕ)). text_of_field f ∷ ls) (lines_are g fields (and_right (is_field f) _ h))

-- a field on its line
colon_at : (name value : List ℕ) → list_all is_name_byte name ≡ true → prefix_len (λ b. not (eqb b 58)) (name ++ 58 ∷ value) ≡ length name
colon_at [] value h = refl
colon_at (b ∷ name) value h = grind (arith, nat_tests, colon_at name value)

position_is : (name value : List ℕ) → list_all is_name_byte name ≡ true → position (λ b. eqb b 58) (name ++ 58 ∷ value) ≡ Some (length name)
position_is name value h = grind (arith, nat_tests, colon_at name value h, length-append)

field_is : (f : Field) → is_field f ≡ true → field_in (text_of_field f) ≡ Some f
field_is f h =
    grind (
      arith,
      common_steps,
      position_is f.name f.value,
      name_all f.name,
      take_at f.name (58 ∷ f.value) (length f.name),
      drop_at f.name (58 ∷ f.value) (length f.name),
      drop-drop 1 (length f.name) (text_of_field f),
    )

pub fields_are : (fields : List Field) → list_all is_field fields ≡ true → fields_in (map text_of_field fields) ≡ Some fields
fields_are [] h = refl
fields_are (f ∷ fields) h = rw (field_is f (and_left (is_field f) _ h), fields_are fields (and_right (is_field f) _ h)) refl

-- where a header part of fields ends: not before a byte that is no CR, nor with the end of a line where a field follows
end_past : (text more : List ℕ) (size n : ℕ) → list_all not_cr text ≡ true → end_of more ≡ Some size → n ≡ length text + size
    → end_of (text ++ more) ≡ Some n
end_past [] more size n h e l = grind arith
end_past (c ∷ text) more size n h e l = grind (arith, nat_tests, end_past text more size (length text + size))

on_next : (c : ℕ) (rest : List ℕ) (size : ℕ) → not_cr c ≡ true → end_of (c ∷ rest) ≡ Some size
    → end_of (13 ∷ 10 ∷ c ∷ rest) ≡ Some (suc (suc size))
on_next c rest size h e = grind (arith, nat_tests)

end_on : (name rest : List ℕ) (size : ℕ) → is_name name ≡ true → end_of (name ++ rest) ≡ Some size
    → end_of (13 ∷ 10 ∷ (name ++ rest)) ≡ Some (suc (suc size))
end_on [] rest size h e = cc
end_on (c ∷ name) rest size h e =
    on_next c (name ++ rest) size (name_not_cr c (and_left (is_name_byte c) _ (name_all (c ∷ name) h))) e

end_after : (fields : List Field) (more : List ℕ) → list_all is_field fields ≡ true
    → end_of (13 ∷ 10 ∷ (flat_map line_of fields ++ 13 ∷ 10 ∷ more)) ≡ Some (length (flat_map line_of fields) + 4)
end_after [] more h = refl
end_after (f ∷ fields) more h =
    let lines : List ℕ = flat_map line_of fields in
    let rest : List ℕ = 13 ∷ 10 ∷ (lines ++ 13 ∷ 10 ∷ more) in
    let shape : flat_map line_of (f ∷ fields) ++ 13 ∷ 10 ∷ more ≡ text_of_field f ++ rest = simp append_assoc in
    let ends = end_past (text_of_field f) rest (length lines + 4) (length (text_of_field f) + (length lines + 4))
    (field_not_cr f (and_left (is_field f) _ h)) (end_after fields more (and_right (is_field f) _ h)) refl in
    let size : suc (suc (length (text_of_field f) + (length lines + 4))) ≡ length (flat_map line_of (f ∷ fields)) + 4 =
    simp length-append (omega arith) in
    ap (λ (x : List ℕ). end_of (13 ∷ 10 ∷ x)) (shape ∙ append_assoc f.name (58 ∷ f.value) rest)
    ∙ end_on f.name (58 ∷ (f.value ++ rest)) _ (and_left _ _ (and_left (is_field f) _ h)) (rw append_assoc at ends)
    ∙ ap (λ k. Some k) size

pub end_is : (fields : List Field) (field : Field) (more : List ℕ) → list_all is_field fields ≡ true → length_fields fields ≡ field ∷ []
    → end_of (header_of fields ++ more) ≡ Some (length (header_of fields))
end_is [] field more h once = cc
end_is (f ∷ fields) field more h once =
    let lines : List ℕ = flat_map line_of fields in
    let rest : List ℕ = 13 ∷ 10 ∷ (lines ++ 13 ∷ 10 ∷ more) in
    let shape : header_of (f ∷ fields) ++ more ≡ text_of_field f ++ rest = append_assoc (flat_map line_of (f ∷ fields)) end_of_line more
    ∙ simp append_assoc in
    let size : length (header_of (f ∷ fields)) ≡ length (text_of_field f) + (length lines + 4) = simp length-append (omega arith) in
    ap end_of shape
    ∙ end_past (text_of_field f) rest (length lines + 4) (length (header_of (f ∷ fields)))
    (field_not_cr f (and_left (is_field f) _ h)) (end_after fields more (and_right (is_field f) _ h)) size

-- the other way: lines that are fields spell a header part
abbrev joined : List (List ℕ) → List ℕ
joined lines = flat_map (λ (l : List ℕ). l ++ end_of_line) lines

joined_onto : (c x : ℕ) (lines : List (List ℕ)) (xs : List ℕ) → joined lines ≡ x ∷ xs → joined (onto_first c lines) ≡ c ∷ x ∷ xs
joined_onto c x lines xs h = grind arith

joined_lines : (text : List ℕ) → joined (lines_of text) ≡ text ++ end_of_line
joined_lines [] = refl
joined_lines (c ∷ []) = refl
joined_lines (c ∷ d ∷ text) =
    grind (arith, nat_tests, joined_lines text, joined_onto c d (lines_of (d ∷ text)) (text ++ end_of_line) (joined_lines (d ∷ text)))

-- what a line that is a field spells
spells_at : (line : List ℕ) (f : Field) (i : ℕ) → position (λ b. eqb b 58) line ≡ Some i → field_at line (Some i) ≡ Some f
    → (is_field f ≡ true) × (line ≡ text_of_field f)
spells_at line f i e h = grind (arith, nat_tests, position-Some (λ b. eqb b 58) line i 0 e, take-append-drop i line, drop_more line i 0)

field_spells : (line : List ℕ) (f : Field) → field_in line ≡ Some f → (is_field f ≡ true) × (line ≡ text_of_field f)
field_spells line f h = by_position (position (λ b. eqb b 58) line) refl h where
  by_position : (o : Option ℕ) → position (λ b. eqb b 58) line ≡ o → field_at line o ≡ Some f
      → (is_field f ≡ true) × (line ≡ text_of_field f)
  by_position None e h = cc
  by_position (Some i) e h = spells_at line f i e h

with_field_is : (o : Option Field) (os : Option (List Field)) (fields : List Field) → with_field o os ≡ Some fields
    → (f : Field) × (fs : List Field) × (o ≡ Some f) × (os ≡ Some fs) × (f ∷ fs ≡ fields)
with_field_is o os fields h = grind arith

-- what lines that are fields spell
fields_spell : (lines : List (List ℕ)) (fields : List Field) → fields_in lines ≡ Some fields
    → (list_all is_field fields ≡ true) × (joined lines ≡ flat_map line_of fields)
fields_spell [] fields h = let none : [] ≡ fields = cc in rw (← none) (refl, refl)
fields_spell (line ∷ lines) fields h =
    let w = with_field_is (field_in line) (fields_in lines) fields h in
    let first = field_spells line w.0 w.2 in
    let others = fields_spell lines w.1 w.3 in
    rw (← w.4) (
      and_both _ _ first.0 others.0,
      ap (λ (x : List ℕ). (x ++ end_of_line) ++ joined lines) first.1 ∙ ap (λ (x : List ℕ). line_of w.0 ++ x) others.1,
    )

-- a text whose lines are these fields is their header part, without its end
pub header_from_text : (text : List ℕ) (fields : List Field) → fields_in (lines_of text) ≡ Some fields
    → (text ++ end_mark ≡ header_of fields) × (list_all is_field fields ≡ true)
header_from_text text fields h =
    let s = fields_spell (lines_of text) fields h in
    (sym (append_assoc text end_of_line end_of_line) ∙ ap (λ (x : List ℕ). x ++ end_of_line) (sym (joined_lines text) ∙ s.1), s.0)
