-- Lines of a mnemonic and operands that are any bytes that an operand may have.
use Rattle.statements.proofs.Common.{[], access_mnemonics, all_append, AllBlank, and_both, and_left, and_right, and_then, ap, append-nil, append_assoc, are_operands, AreOperands, arith, bare, begins_blank, between, Bool, branch_mnemonics, commas, cond-false, copy_mnemonics, counted, directives, divided, false, fields, immediate_mnemonics, is_blank, is_name, is_name_byte, is_operand, is_plain, is_quiet, IsLine, IsOperand, IsStatement, jump_mnemonics, length, line_of, line_with, LineError, List, list_all, map, meaning, Mnemonic, mnemonic_of, Names, NamesArePlain, nat_tests, not, Ok, One, operand_list, parted_at, plain_mnemonics, read, refl, register_mnemonics, Result, Said, said_by, Some, stating, subst, sym, Three, trimmed, trimmed_begins, true, Two, with_one, with_three, with_two, without_comment, zero_branch_mnemonics, ℕ, ◌&&◌, ◌++◌, ◌<◌, ◌==◌, ◌∙◌, ◌∷◌, ◌≡◌}
use Rattle.statements.proofs.Dividing.{lines_read, name_long, unempty}
use Rattle.byte_strings.proofs.Divided.{fields_none, fields_some}
use Rattle.statements.proofs.Registers.{name_bytes, named_is_name, table_is}
use Rattle.statements.proofs.Runs.{Ends, all_weaker, bare_ends, begins_append, ends_after, lacks, lacks_byte, no_position, parts_join, unblank_bare}

-- what stands in a table of mnemonics is a name
mnemonic_is_name : (name : List ℕ) (mnemonic : Mnemonic) → mnemonic_of name ≡ Some mnemonic → is_name name ≡ true
mnemonic_is_name name mnemonic h =
    table_is (λ text m. is_name text) (immediate_mnemonics ∷ access_mnemonics ∷ branch_mnemonics ∷ zero_branch_mnemonics
    ∷ register_mnemonics ∷ copy_mnemonics ∷ jump_mnemonics ∷ plain_mnemonics ∷ directives ∷ []) name mnemonic refl h

-- ---- operands

-- a byte of an operand, and one of an operand that is spelled plainly
abbrev pub is_quiet_byte : ℕ → Bool
is_quiet_byte b = not (b == 44) && not (b == 35)

abbrev pub is_plain_byte : ℕ → Bool
is_plain_byte b = not (is_blank b) && is_quiet_byte b

pub blank_quiet : (text : List ℕ) → list_all is_blank text ≡ true → is_quiet text ≡ true
blank_quiet text h = all_weaker is_blank is_quiet_byte (λ b k. grind (arith, nat_tests)) text h

pub operand_long : (text : List ℕ) → is_operand text ≡ true → 0 < length text
operand_long text h = grind (arith, nat_tests)

pub long_is : (text : List ℕ) → 0 < length text → is_operand text ≡ true
long_is text h = grind (arith, nat_tests)

-- what is spelled plainly is an operand
pub plain_operand : (text : List ℕ) → is_plain text ≡ true → IsOperand text
plain_operand text h =
    let all = and_right (is_operand text) _ h in record {
      some = and_left (is_operand text) _ h;
      bare = unblank_bare text (all_weaker is_plain_byte (λ b. not (is_blank b)) (λ b k. and_left (not (is_blank b)) _ k) text all);
      quiet = all_weaker is_plain_byte is_quiet_byte (λ b k. and_right (not (is_blank b)) _ k) text all;
    }

pub plain_name : NamesArePlain
plain_name name h =
    and_both _ _ (long_is name (name_long name h)) (all_weaker is_name_byte is_plain_byte (λ b k. grind (arith, nat_tests)) name (name_bytes name h))

pub name_operand : (text : List ℕ) → is_name text ≡ true → IsOperand text
name_operand text h = plain_operand text (plain_name text h)

pub register_operand : {text : List ℕ} {r : ℕ} → Names text r → IsOperand text
register_operand {text} {r} h = name_operand text (named_is_name text r h)

pub operand_begins : (text more : List ℕ) → IsOperand text → begins_blank (text ++ more) ≡ false
operand_begins text more o = begins_append text more (operand_long text o.some) ∙ sym (ap begins_blank o.bare) ∙ trimmed_begins text

-- ---- lists of operands

spaced : (before text : List ℕ) → list_all is_blank before ≡ true → trimmed text ≡ text → trimmed (before ++ text) ≡ text
spaced before text b h = sym (ap trimmed (append-nil (before ++ text))) ∙ between before text [] b refl h

-- an operand after blanks
spaced_no_comma : (before operand : List ℕ) → list_all is_blank before ≡ true → IsOperand operand → lacks 44 (before ++ operand) ≡ true
spaced_no_comma before operand b o = all_append _ before operand (lacks_byte is_blank 44 before refl b) (lacks_byte is_quiet_byte 44 operand refl o.quiet)

parts_after : (before operand : List ℕ) (others : List (List ℕ)) → list_all is_blank before ≡ true → AreOperands (operand ∷ others)
    → map trimmed (fields 44 (before ++ commas (operand ∷ others))) ≡ operand ∷ others
parts_after before operand [] b (o, all) =
    let none = no_position (λ b. b == 44) (before ++ operand) (spaced_no_comma before operand b o) in
    rw (fields_none 44 (before ++ operand) (ap (parted_at (before ++ operand)) none), spaced before operand b o.bare) refl
parts_after before operand (next ∷ others) b (o, all) =
    let text : List ℕ = before ++ operand in
    let rest : List ℕ = 32 ∷ commas (next ∷ others) in
    rw (← append_assoc before operand (44 ∷ rest))
    (rw (fields_some 44 (text ++ 44 ∷ rest) text rest (parts_join 44 text rest (spaced_no_comma before operand b o)))
    (rw (spaced before operand b o.bare) (ap (λ (l : List (List ℕ)). operand ∷ l) (parts_after (32 ∷ []) next others refl all))))

commas_lack : (list : List (List ℕ)) → AreOperands list → lacks 35 (commas list) ≡ true
commas_lack [] all = refl
commas_lack (operand ∷ []) (o, all) = lacks_byte is_quiet_byte 35 operand refl o.quiet
commas_lack (operand ∷ next ∷ others) (o, all) =
    all_append _ operand (44 ∷ 32 ∷ commas (next ∷ others)) (lacks_byte is_quiet_byte 35 operand refl o.quiet) (commas_lack (next ∷ others) all)

commas_end : (operand : List ℕ) (others : List (List ℕ)) → AreOperands (operand ∷ others) → Ends (commas (operand ∷ others))
commas_end operand [] (o, all) = bare_ends operand o.bare (operand_long operand o.some)
commas_end operand (next ∷ others) (o, all) =
    ends_after operand (44 ∷ 32 ∷ commas (next ∷ others)) (ends_after (44 ∷ 32 ∷ []) (commas (next ∷ others)) (commas_end next others all))

commas_begin : (operand : List ℕ) (others : List (List ℕ)) → IsOperand operand → begins_blank (commas (operand ∷ others)) ≡ false
commas_begin operand [] o = sym (ap begins_blank o.bare) ∙ trimmed_begins operand
commas_begin operand (next ∷ others) o = operand_begins operand (44 ∷ 32 ∷ commas (next ∷ others)) o

pub listed : (list : List (List ℕ)) → AreOperands list → operand_list (commas list) ≡ list
listed [] all = refl
listed (operand ∷ others) all =
    cond-false _ _ _ (unempty (commas (operand ∷ others)) (commas_end operand others all).1) ∙ parts_after [] operand others refl all

each_some : (list : List (List ℕ)) → AreOperands list → list_all is_operand list ≡ true
each_some [] all = refl
each_some (operand ∷ others) (o, all) = and_both _ _ o.some (each_some others all)

-- ---- lines

-- a name, blanks and operands are a line
spoken_line : (name gap operands : List ℕ) → is_name name ≡ true → AllBlank gap → (0 < length operands → 0 < length gap)
    → trimmed operands ≡ operands → are_operands operands ≡ true → lacks 35 operands ≡ true
    → read (name ++ (gap ++ operands)) ≡ line_of [] (stating (said_by (mnemonic_of name) operands))
spoken_line name gap operands n blank apart bare each quiet =
    let text : List ℕ = name ++ (gap ++ operands) in
    let all : lacks 35 text ≡ true = all_append _ name (gap ++ operands) (lacks_byte is_quiet_byte 35 name refl (name_operand name n).quiet)
    (all_append _ gap operands (lacks_byte is_blank 35 gap refl blank) quiet) in
    let statement : IsStatement name operands text = record {
      before = [];
      gap = gap;
      after = [];
      blank_before = refl;
      blank_gap = blank;
      blank_after = refl;
      name = n;
      apart = apart;
      bare = bare;
      each = each;
      spelled = sym (append-nil ((name ++ gap) ++ operands) ∙ append_assoc name gap operands);
    } in
    let line : IsLine text (divided [] name operands) = record { rest = text; labelled = refl; spoken = statement } in
    let whole : without_comment text ≡ text = rw (no_position (λ b. b == 35) text all) refl in
    lines_read text (divided [] name operands) (subst (λ t. IsLine t (divided [] name operands)) (sym whole) line)

-- a line that is a name and operands says what the name says of them
pub plain_means : (name : List ℕ) (list : List (List ℕ)) → is_name name ≡ true → AreOperands list
    → read (line_with name list) ≡ line_of [] (stating (said_by (mnemonic_of name) (commas list)))
plain_means name [] n all = ap read (sym (append-nil name)) ∙ spoken_line name [] [] n refl (λ h. h) refl refl refl
plain_means name (operand ∷ others) n all =
    let list : List (List ℕ) = operand ∷ others in
    spoken_line name (32 ∷ []) (commas list) n refl (λ h. omega arith)
    (bare (commas list) (commas_begin operand others all.0) (commas_end operand others all).0)
    (ap (list_all is_operand) (listed list all) ∙ each_some list all) (commas_lack list all)

-- a line of operands says what the mnemonic says of them
pub list_means : (name : List ℕ) (list : List (List ℕ)) {mnemonic : Mnemonic} {s : Said} → mnemonic_of name ≡ Some mnemonic
    → AreOperands list → meaning mnemonic (counted list) (commas list) ≡ s → read (line_with name list) ≡ line_of [] (stating s)
list_means name list {mnemonic} w all e =
    plain_means name list (mnemonic_is_name name mnemonic w) all
    ∙ ap (λ s. line_of [] (stating s)) (ap (λ found. said_by found (commas list)) w
    ∙ ap (λ l. meaning mnemonic (counted l) (commas list)) (listed list all) ∙ e)

pub one_means : (name : List ℕ) {a : List ℕ} {mnemonic : Mnemonic} {s : Said} → mnemonic_of name ≡ Some mnemonic → IsOperand a
    → meaning mnemonic (One a) a ≡ s → read (with_one name a) ≡ line_of [] (stating s)
one_means name {a} w o e = list_means name (a ∷ []) w (o, tt) e

pub two_means : (name : List ℕ) {a b : List ℕ} {mnemonic : Mnemonic} {s : Said} → mnemonic_of name ≡ Some mnemonic → IsOperand a
    → IsOperand b → meaning mnemonic (Two a b) (a ++ 44 ∷ 32 ∷ b) ≡ s → read (with_two name a b) ≡ line_of [] (stating s)
two_means name {a} {b} w o p e = list_means name (a ∷ b ∷ []) w (o, (p, tt)) e

pub three_means : (name : List ℕ) {a b c : List ℕ} {mnemonic : Mnemonic} {s : Said} → mnemonic_of name ≡ Some mnemonic → IsOperand a
    → IsOperand b → IsOperand c → meaning mnemonic (Three a b c) (a ++ 44 ∷ 32 ∷ (b ++ 44 ∷ 32 ∷ c)) ≡ s
    → read (with_three name a b c) ≡ line_of [] (stating s)
three_means name {a} {b} {c} w o p q e = list_means name (a ∷ b ∷ c ∷ []) w (o, (p, (q, tt))) e

pub one_ok : {A D : Type 0} {x : Result A LineError} {a : A} (f : A → Result D LineError) → x ≡ Ok a → and_then x f ≡ f a
one_ok f p = rw p refl

pub two_ok : {A B D : Type 0} {x : Result A LineError} {y : Result B LineError} {a : A} {b : B} (f : A → B → Result D LineError) → x ≡ Ok a
    → y ≡ Ok b → and_then x (λ a. and_then y (λ b. f a b)) ≡ f a b
two_ok f p q = rw (p, q) refl

pub three_ok : {A B C D : Type 0} {x : Result A LineError} {y : Result B LineError} {z : Result C LineError} {a : A} {b : B} {c : C}
    (f : A → B → C → Result D LineError) → x ≡ Ok a → y ≡ Ok b → z ≡ Ok c
    → and_then x (λ a. and_then y (λ b. and_then z (λ c. f a b c))) ≡ f a b c
three_ok f p q r = rw (p, q, r) refl
