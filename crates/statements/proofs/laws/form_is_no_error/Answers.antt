-- Whatever the operands of a mnemonic are, what is wrong with them is an error of operands.
use Rattle.statements.proofs.Common.{[], access_by, access_in, access_with, address_target, all_of, and_then, are_formed, arith, BadOperand, base_by, Bits, bits_in, bits_low, Bool, bracketed, Byte, closed, codes, cond, Data, Err, fields, Half, immediate_in, is_name, item_in, items_of, Label, label_in, length, line_of, LineError, List, Low, low_by, low_in, MatchOption, meaning, Mnemonic, mnemonic_of, More, nat_tests, None, not, number_item, Ok, operands_in, Option, or_bad, OutOfRange, part_access, part_access_by, part_by, part_in, part_low, parted, plain_access, refl, register_of, Result, Said, said_by, says, Some, Spoken, stating, stripped, sym, target_in, trimmed, UnknownInstruction, upper_by, upper_in, Width, without_leading_blanks, Word, ℕ, ◌*◌, ◌==◌, ◌||◌, ◌∙◌, ◌∷◌, ◌≡◌}
use Rattle.statements.specs.Laws.{IsErrorOf, IsOfOperands}
use Rattle.statements.specs.declared.operands.Operands.{Operands}
use Rattle.statements.proofs.Dividing.{lines_read}
use Rattle.statements.proofs.Fields.{cases_found}

-- what is wrong, if anything is, is an error of operands
data Mild {A : Type 0} : Result A LineError → Type 0 where
  good : (a : A) → Mild (Ok a)
  bad : Mild (Err BadOperand)
  far : Mild (Err OutOfRange)

mild_cond : {A : Type 0} {x y : Result A LineError} (test : Bool) → Mild x → Mild y → Mild (cond test x y)
mild_cond test a b = grind (arith, good, bad, far)

mild_then : {A B : Type 0} {x : Result A LineError} (f : A → Result B LineError) → Mild x → ((a : A) → Mild (f a)) → Mild (and_then x f)
mild_then f a h = grind (arith, good, bad, far)

-- what turns only what is right
mild_map : {A B : Type 0} {x : Result A LineError} (f : Result A LineError → Result B LineError) → ((a : A) → Mild (f (Ok a)))
    → ((error : LineError) → f (Err error) ≡ Err error) → Mild x → Mild (f x)
mild_map f h e a = grind (arith, good, bad, far)

-- what reads something where it is found
mild_found : {A B : Type 0} (f : Option A → Result B LineError) (o : Option A) → Mild (f None) → ((a : A) → Mild (f (Some a))) → Mild (f o)
mild_found f o n s = grind (arith, good, bad, far)

-- ---- operands

mild_or_bad : {A : Type 0} (found : Option A) → Mild (or_bad found)
mild_or_bad found = grind (arith, good, bad)

mild_bits : (below above : ℕ) (text : List ℕ) → Mild (bits_in below above text)
mild_bits below above text = grind (arith, nat_tests, good, bad, far)

mild_immediate : (text : List ℕ) → Mild (bits_low (immediate_in text))
mild_immediate text = mild_map bits_low (λ n. good _) (λ error. refl) (mild_bits 2048 2047 text)

mild_label : (text : List ℕ) → Mild (label_in text)
mild_label text = mild_cond (is_name text) (good text) bad

mild_part : (text : List ℕ) → Mild (part_in text)
mild_part text = mild_found part_by (bracketed (without_leading_blanks text)) bad mild_label

mild_low : (text : List ℕ) → Mild (low_in text)
mild_low text =
    mild_found (low_by text) (stripped (codes "%lo") text) (mild_immediate text)
    (λ after. mild_map part_low (λ label. good _) (λ error. refl) (mild_part after))

mild_with : {offset : Result Low LineError} {base : Result ℕ LineError} → Mild offset → Mild base → Mild (access_with offset base)
mild_with offset base = grind (arith, good, bad, far)

mild_base : (found : Option (List ℕ)) → Mild (base_by found)
mild_base found = mild_found base_by found bad (λ name. mild_or_bad (register_of name))

mild_access : (text : List ℕ) → Mild (access_in text)
mild_access text =
    mild_found (access_by text) (stripped (codes "%lo") text)
    (mild_found plain_access (parted 40 text) bad (λ p. mild_with
    (mild_cond (length (trimmed p.0) == 0) (good (Bits 0)) (mild_immediate (trimmed p.0))) (mild_base (closed p.1))))
    (λ after. mild_found part_access (stripped (codes "(") (without_leading_blanks after)) bad
    (λ inside. mild_found part_access_by (parted 41 inside) bad (λ p. mild_with
    (mild_map part_low (λ label. good _) (λ error. refl) (mild_label (trimmed p.0))) (mild_base (bracketed (without_leading_blanks p.1))))))

mild_target : (text : List ℕ) → Mild (target_in text)
mild_target text =
    mild_cond (is_name text) (good (Label text))
    (mild_map address_target (λ address. good _) (λ error. refl) (mild_bits 0 4294967295 text))

mild_upper : (text : List ℕ) → Mild (upper_in text)
mild_upper text = mild_then (λ bits. Ok (bits * 4096)) (mild_bits 0 1048575 text) (λ bits. good _)

mild_upper_by : (rd : ℕ) (text : List ℕ) (found : Option (List ℕ)) → Mild (upper_by rd text found)
mild_upper_by rd text found =
    mild_found (upper_by rd text) found (mild_then _ (mild_upper text) (λ imm. good _)) (λ after. mild_then _ (mild_part after) (λ label. good _))

-- ---- data

mild_item : (width : Width) (text : List ℕ) → Mild (item_in width text)
mild_item Byte text = mild_map number_item (λ n. good _) (λ error. refl) (mild_bits 128 255 text)
mild_item Half text = mild_map number_item (λ n. good _) (λ error. refl) (mild_bits 32768 65535 text)
mild_item Word text =
    mild_cond (is_name text) (good _) (mild_map number_item (λ n. good _) (λ error. refl) (mild_bits 2147483648 4294967295 text))

mild_next : {A : Type 0} {x : Result A LineError} (others : List (Result A LineError)) → Mild x → Mild (all_of others)
    → Mild (all_of (x ∷ others))
mild_next others h k = grind (arith, good, bad, far)

mild_all : (width : Width) (list : List (List ℕ)) → Mild (items_of width list)
mild_all width [] = good []
mild_all width (field ∷ list) = mild_next _ (mild_item width (trimmed field)) (mild_all width list)

-- ---- mnemonics

ruleset parts = (good, bad, mild_then, mild_or_bad, mild_low, mild_access, mild_bits, mild_target, mild_upper, mild_upper_by, mild_label)

mild_meaning : (mnemonic : Mnemonic) (operands : Operands) (text : List ℕ) → Mild (meaning mnemonic operands text)
mild_meaning (Data width) operands text =
    mild_cond ((length text == 0) || not (are_formed width text)) bad (mild_then _ (mild_all width (fields 44 text)) (λ items. good _))
mild_meaning mnemonic More text = bad
mild_meaning mnemonic operands text = search parts depth 8

-- ---- lines

error_is : (labels : List (List ℕ)) {s : Said} (error : LineError) → Mild s → line_of labels (stating s) ≡ Err error → IsOfOperands error
error_is labels BadOperand h e = tt
error_is labels OutOfRange h e = tt
error_is labels error (good s) e = cc
error_is labels error h e = cc

spoken_error : (labels : List (List ℕ)) (spoken : Option Spoken) (error : LineError) → line_of labels (says spoken) ≡ Err error
    → IsErrorOf spoken error
spoken_error labels None error e = cc
spoken_error labels (Some (mnemonic, operands)) error e =
    cases_found (λ found. line_of labels (stating (said_by found operands)) ≡ Err error
    → MatchOption found (error ≡ UnknownInstruction) (λ named. IsOfOperands error)) (mnemonic_of mnemonic)
    (λ n k. cc) (λ m n k. error_is labels error (mild_meaning m (operands_in operands) operands) k) e

pub returns : Rattle.statements.proofs.laws.form_is_no_error.Goals.returns
returns c line d error h e = spoken_error d.labels d.spoken error (sym (lines_read line d h) ∙ e)
