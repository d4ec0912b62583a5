-- Each line with a statement, as the plain line of its mnemonic and its operands.
use Rattle.statements.proofs.Common.{[], and_both, and_left, and_parts, ap, AreOperands, arith, Bool, commas, cond_both, content_by, counted, Data, divided, false, fields, is_operand, is_quiet, IsLine, Labelled, labelled, length, line_of, List, list_all, map, meaning, Mnemonic, mnemonic_of, None, not, operand_list, Option, parted, refl, round, Said, said_by, Some, stating, sym, trimmed, trimmed_bare, true, without_comment, ℕ, ◌++◌, ◌==◌, ◌∙◌, ◌∷◌, ◌≡◌}
use Rattle.std.proofs.lemmas.List.Sums.{list_all-from_AllPass}
use Rattle.statements.proofs.AnyOperands.{is_quiet_byte, listed, plain_means}
use Rattle.statements.proofs.DataLines.{outcome, stated_so}
use Rattle.statements.proofs.Dividing.{lines_read}
use Rattle.statements.proofs.Fields.{cases_found}
use Rattle.byte_strings.proofs.Divided.{fields_none, fields_some}
use Rattle.statements.proofs.Runs.{all_left, all_right, lacks}

-- ---- what is said by the operands alone

same_said : (found : Option Mnemonic) (text other : List ℕ) → operand_list text ≡ operand_list other → said_by found text ≡ said_by found other
same_said None text other e = refl
same_said (Some (Data width)) text other e = stated_so width text ∙ ap (outcome width) e ∙ sym (stated_so width other)
same_said (Some mnemonic) text other e = ap (λ l. meaning mnemonic (counted l) []) e

-- ---- the operands of a line

-- each field of a text has what comes of what holds of the text's bytes, and of lacking the byte at which the text is divided
fields_kept : (byte : ℕ) (p r : ℕ → Bool) → ((b : ℕ) → (b == byte) ≡ false → p b ≡ true → r b ≡ true) → (text : List ℕ)
    → list_all p text ≡ true → list_all (list_all r) (fields byte text) ≡ true
fields_kept byte p r f [] h = refl
fields_kept byte p r f (x ∷ text) h = grind (arith, f x, fields_kept byte p r f text)

-- what stands before a comment has no number sign
content_quiet : (line : List ℕ) → lacks 35 (without_comment line) ≡ true
content_quiet line =
    let all = fields_kept 35 (λ b. true) (λ b. not (b == 35)) (λ b t h. ap not t) line (list_all-from_AllPass (λ b. true) line (λ k d l. refl)) in
    cases_found (λ o. lacks 35 (content_by line o) ≡ true) (parted 35 line)
    (λ e. and_left (lacks 35 line) _ (rw (fields_none 35 line e) at all))
    (λ p e. and_left (lacks 35 p.0) _ (rw (fields_some 35 line p.0 p.1 e) at all))

-- what comes after labels has none either
rest_quiet : (labels : List (List ℕ)) (text rest : List ℕ) → Labelled labels text rest → lacks 35 text ≡ true → lacks 35 rest ≡ true
rest_quiet [] text rest e h = sym (ap (lacks 35) e) ∙ h
rest_quiet (label ∷ labels) text rest (after, (begins, others)) h =
    rest_quiet labels after rest others
    (all_right (λ c. not (c == 35)) (begins.before ++ label) (58 ∷ after) (sym (ap (lacks 35) begins.spelled) ∙ h))

each_operand : (list : List (List ℕ)) → list_all is_quiet list ≡ true → list_all is_operand (map trimmed list) ≡ true
    → AreOperands (map trimmed list)
each_operand [] h k = tt
each_operand (field ∷ list) h k =
    let p = and_parts (is_quiet field) _ h in
    let q = and_parts (is_operand (trimmed field)) _ k in
    let r = round field in
    let quiet = all_right _ r.before (trimmed field) (all_left _ (r.before ++ trimmed field) r.after (sym (ap is_quiet r.parted) ∙ p.0)) in
    (record { some = q.0; bare = trimmed_bare field; quiet = quiet }, each_operand list p.1 q.1)

listed_operands : (text : List ℕ) → lacks 35 text ≡ true → list_all is_operand (operand_list text) ≡ true → AreOperands (operand_list text)
listed_operands text h =
    cond_both (length text == 0) [] (map trimmed (fields 44 text)) (λ l. list_all is_operand l ≡ true → AreOperands l) (λ t e. tt)
    (λ t. each_operand (fields 44 text)
    (fields_kept 44 (λ b. not (b == 35)) is_quiet_byte (λ b n k. and_both _ _ (ap not n) k) text h))

line_operands : (line name operands : List ℕ) (labels : List (List ℕ)) → IsLine (without_comment line) (divided labels name operands)
    → AreOperands (operand_list operands)
line_operands line name operands labels h =
    let s = h.spoken in
    let rest = rest_quiet labels (without_comment line) h.rest h.labelled (content_quiet line) in
    listed_operands operands (all_right (λ c. not (c == 35)) (s.before ++ name ++ s.gap) operands
    (all_left (λ c. not (c == 35)) (s.before ++ name ++ s.gap ++ operands) s.after (sym (ap (lacks 35) s.spelled) ∙ rest))) s.each

labelled_so : (labels : List (List ℕ)) (s : Said) → line_of labels (stating s) ≡ labelled labels (line_of [] (stating s))
labelled_so labels s = grind arith

pub returns : Rattle.statements.proofs.laws.lines_are_plain.Goals.returns
returns c = record {
  operands = line_operands;
  plain = λ line name operands labels h.
      let list : List (List ℕ) = operand_list operands in
      let all : AreOperands list = line_operands line name operands labels h in
      lines_read line (divided labels name operands) h
      ∙ ap (λ s. line_of labels (stating s)) (same_said (mnemonic_of name) operands (commas list) (sym (listed list all)))
      ∙ labelled_so labels (said_by (mnemonic_of name) (commas list))
      ∙ sym (ap (labelled labels) (plain_means name list h.spoken.name all));
}
