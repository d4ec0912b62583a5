-- Lines with a bad operand.
use Rattle.statements.proofs.Common.{[], Access, access_by, access_in, access_with, and_parts, and_then, ap, append_assoc, arith, BadOperand, base_by, bits_low, Bool, bracketed, bracketed_by, bytes_eq, bytes_eq-Decides, closed, closed_by, codes, commas, cond-false, counted, Data, drop, eqb-false, Err, immediate_in, inl, inr, IsOperand, label_in, led, length, LineError, List, Low, ltb-true, meaning, Mnemonic, mnemonic_of, named, nat_lt, nat_tests, None, offset_in, Ok, Option, or_bad, part_access, part_access_by, part_by, part_in, part_low, parted, parted_at, plain_access, read, refl, register_in, register_of, Result, rules, Said, set_in, set_text, sets, Some, stripped, sym, take, take-append-drop, takes_address, trimmed, true, with_two, without_leading_blanks, ℕ, ⊎_elim, ◌&&◌, ◌++◌, ◌-◌, ◌==◌, ◌∙◌, ◌∷◌, ◌≡◌, ◌⊎◌}
use Rattle.statements.specs.RefusalLaws.{BracketsAreNeeded, IsInBrackets, NamesAreNeeded, NoRegister, NoSet, OneIsNoRegister, PartsAreInBrackets, RegistersAreNeeded, SetsAreNeeded, registers_of}
use Rattle.std.proofs.lemmas.List.{same_from_push}
use Rattle.statements.proofs.Addresses.{IsAddress, accessed, address_means, immediate_means, low_part, no_blanks, part_address, plain_address, upper_means}
use Rattle.statements.proofs.AnyOperands.{list_means, one_means, two_means}
use Rattle.statements.proofs.Fields.{cases_found}
use Rattle.statements.proofs.Numerals.{stripped_is}
use Rattle.statements.proofs.Registers.{differs, register_none, row_is}
use Rattle.statements.proofs.Runs.{all_right, lacks, no_position, parted_joins}
use Rattle.statements.specs.declared.statement.Statement.TheVariants as say

-- ---- registers

bad_after : (o : Option ℕ) (f : ℕ → Said) → ((r : ℕ) → f r ≡ Err BadOperand) → and_then (or_bad o) f ≡ Err BadOperand
bad_after o f h = grind arith

one_bad : (a : List ℕ) (f : ℕ → Said) {Later : Type 0} → NoRegister a ⊎ Later → (Later → (r : ℕ) → f r ≡ Err BadOperand)
    → and_then (register_in a) f ≡ Err BadOperand
one_bad a f (inl h) later = rw (register_none a h) refl
one_bad a f (inr h) later = bad_after (register_of a) f (later h)

never : {x y : Said} → ⊥ → x ≡ y
never h = absurd h

first_wrong : (mnemonic : Mnemonic) (list : List (List ℕ)) → OneIsNoRegister (registers_of mnemonic (length list)) list
    → meaning mnemonic (counted list) (commas list) ≡ Err BadOperand
first_wrong (Data width) list h = absurd h
first_wrong mnemonic (a ∷ b ∷ c ∷ d ∷ more) h = refl
first_wrong mnemonic list h = first_of (search rules, search (one_bad, never) depth 8)

-- ---- addresses

no_base : (x : Result Low LineError) → access_with x (Err BadOperand) ≡ Err BadOperand
no_base x = grind arith

bad_address : (name : List ℕ) (mnemonic : Mnemonic) {register text : List ℕ} {value : Result Access LineError}
    → mnemonic_of name ≡ Some mnemonic → takes_address mnemonic ≡ true → IsOperand register → IsAddress text value
    → value ≡ Err BadOperand → read (with_two name register text) ≡ Err BadOperand
bad_address name mnemonic {register} e t o a h =
    address_means name mnemonic e t o a
    (bad_after (register_of register) _ (λ r. ap (λ x. and_then x (λ access. Ok (accessed mnemonic r access))) h))

pub no_registers : RegistersAreNeeded
no_registers = record {
  first = λ name mnemonic operands e o h. list_means name operands e o (first_wrong mnemonic operands h);
  offset = λ name register offset s mnemonic e t o p u n h.
      bad_address name mnemonic e t o (plain_address offset s no_blanks p u n)
      (rw (ap or_bad (register_none s h)) (no_base (bits_low (immediate_in offset))));
  part = λ name register x s mnemonic e t o n u k h.
      bad_address name mnemonic e t o (part_address x s no_blanks no_blanks n u k)
      (rw (ap or_bad (register_none s h)) (no_base (part_low (label_in x))));
}

-- ---- brackets

-- a text does not end with a closing bracket
abbrev Unclosed : List ℕ → Type 0
Unclosed text = (before : List ℕ) → text ≡ before ++ 41 ∷ [] → ⊥

later : (text before rest : List ℕ) → text ≡ before ++ rest → Unclosed text → Unclosed rest
later text before rest e u a f = u (before ++ a) (e ∙ ap (λ (l : List ℕ). before ++ l) f ∙ sym (append_assoc before a (41 ∷ [])))

after_byte : (c : ℕ) (text before rest : List ℕ) → parted c text ≡ Some (before, rest) → Unclosed text → Unclosed rest
after_byte c text before rest e u =
    later text (before ++ c ∷ []) rest (parted_joins c text before rest e ∙ sym (append_assoc before (c ∷ []) rest)) u

after_blanks : (text : List ℕ) → Unclosed text → Unclosed (without_leading_blanks text)
after_blanks text u = let l = led text in later text l.blanks (without_leading_blanks text) l.parted u

closed_none : (text : List ℕ) → Unclosed text → closed text ≡ None
closed_none text u =
    let k : ℕ = length text - 1 in
    ap closed_by (cond-false (bytes_eq (drop k text) (41 ∷ [])) _ _ (differs (drop k text) (41 ∷ [])
    (λ e. u (take k text) (sym (take-append-drop k text) ∙ ap (λ (l : List ℕ). take k text ++ l) e))))

bracketed_none : (text : List ℕ) → ((before : List ℕ) → text ≡ 40 ∷ (before ++ 41 ∷ []) → ⊥) → bracketed text ≡ None
bracketed_none text u =
    cases_found (λ o. bracketed_by o ≡ None) (stripped (40 ∷ []) text) (λ e. refl)
    (λ after e. closed_none after (λ a f. u a (stripped_is (40 ∷ []) text after e ∙ ap (λ (l : List ℕ). 40 ∷ l) f)))

-- what reads an address, where nothing that is found makes it one
abbrev Bad : {A : Type 0} → (Option A → Result Access LineError) → Option A → Type 0
Bad reads found = reads found ≡ Err BadOperand

-- no address ends with another byte than a closing bracket
unclosed : (text : List ℕ) → Unclosed text → access_in text ≡ Err BadOperand
unclosed text u =
    cases_found (Bad (access_by text)) (stripped (codes "%lo") text)
    (λ e. cases_found (Bad plain_access) (parted 40 text) (λ e. refl) (λ p e.
    let low = offset_in (trimmed p.0) in
    ap (λ o. access_with low (base_by o)) (closed_none p.1 (after_byte 40 text p.0 p.1 e u)) ∙ no_base low))
    (λ rest e. cases_found (Bad part_access) (stripped (40 ∷ []) (without_leading_blanks rest)) (λ e. refl) (λ inside f.
    let i : Unclosed inside = later (without_leading_blanks rest) (40 ∷ []) inside (stripped_is (40 ∷ []) (without_leading_blanks rest) inside f)
    (after_blanks rest (later text (codes "%lo") rest (stripped_is (codes "%lo") text rest e) u)) in
    cases_found (Bad part_access_by) (parted 41 inside) (λ e. refl) (λ p e.
    let low = part_low (label_in (trimmed p.0)) in
    ap (λ o. access_with low (base_by o)) (bracketed_none (without_leading_blanks p.1)
    (λ a f. after_blanks p.1 (after_byte 41 inside p.0 p.1 e i) (40 ∷ a) f)) ∙ no_base low)))

-- no address lacks an opening one
unopened : (text : List ℕ) → lacks 40 text ≡ true → access_in text ≡ Err BadOperand
unopened text h =
    cases_found (Bad (access_by text)) (stripped (codes "%lo") text)
    (λ e. ap (λ o. plain_access (parted_at text o)) (no_position (λ b. b == 40) text h))
    (λ rest e. let l = led rest in
    ap part_access (none (without_leading_blanks rest) (all_right _ l.blanks (without_leading_blanks rest) (sym (ap (lacks 40) l.parted)
    ∙ all_right _ (codes "%lo") rest (sym (ap (lacks 40) (stripped_is (codes "%lo") text rest e)) ∙ h))))) where
      none : (rest : List ℕ) → lacks 40 rest ≡ true → stripped (40 ∷ []) rest ≡ None
      none rest k = grind (arith, nat_tests)

pub no_brackets : BracketsAreNeeded
no_brackets = record {
  opening = λ name register text mnemonic e t o p h. bad_address name mnemonic e t o (p, refl) (unopened text h);
  closing = λ name register before last mnemonic e t o p h.
      bad_address name mnemonic e t o (p, refl) (unclosed (before ++ last ∷ [])
      (λ a f. eqb-false last 41 h (same_from_push before a last 41 f).1));
}

-- what is not in brackets is no part of an address
unbracketed_part : (text : List ℕ) → (IsInBrackets text → ⊥) → part_in text ≡ Err BadOperand
unbracketed_part text never =
    let l = led text in
    ap part_by (bracketed_none (without_leading_blanks text)
    (λ inner e. never (l.blanks, (inner, (l.all, l.parted ∙ ap (λ (t : List ℕ). l.blanks ++ t) e)))))

pub no_parts : PartsAreInBrackets
no_parts = record {
  low = λ name d s text op e o p q h.
      immediate_means name e o p (q, ap part_low (unbracketed_part text h))
      (bad_after (register_of d) _ (λ rd. bad_after (register_of s) _ (λ rs1. refl)));
  high = λ d text o q h.
      two_means (codes "lui") refl o q
      (bad_after (register_of d) _ (λ rd. ap (λ y. and_then y (λ label. Ok (say.Upper rd label))) (unbracketed_part text h)));
}

-- ---- labels

no_part : (o : Option ℕ) → access_with (Err BadOperand) (or_bad o) ≡ Err BadOperand
no_part o = grind arith

pub no_names : NamesAreNeeded
no_names = record {
  la = λ d x o p h. two_means (codes "la") refl o p (bad_after (register_of d) _ (λ rd. rw h refl));
  call = λ x o h. one_means (codes "call") {s = Err BadOperand} refl o (rw h refl);
  upper = λ d x o n h. upper_means d x no_blanks o n (bad_after (register_of d) _ (λ rd. rw h refl));
  immediate = λ name d s x op e o p n h.
      immediate_means name e o p (low_part x no_blanks n) (bad_after (register_of d) _ (λ rd. bad_after (register_of s) _ (λ rs1. rw h refl)));
  part = λ name register x s mnemonic e t o n u k h.
      bad_address name mnemonic e t o (part_address x s no_blanks no_blanks n u k) (rw h (no_part (register_of s)));
}

-- ---- sets

is_set : List ℕ → ℕ → Bool
is_set text n = bytes_eq text (set_text n) && (nat_lt 0 n && nat_lt n 16)

no_set : (text : List ℕ) → NoSet text → set_in text ≡ Err BadOperand
unfolding is_set
no_set text h =
    cases_found (λ o. or_bad o ≡ Err BadOperand) (named sets text) (λ e. refl) (λ n e.
    let row = and_parts (bytes_eq text (set_text n)) _ (row_is is_set sets text n refl e) in
    let range = and_parts (nat_lt 0 n) _ row.1 in
    absurd (h n (ltb-true 0 n range.0) (ltb-true n 16 range.1) ((bytes_eq-Decides text (set_text n)).0 row.0)))

pub no_sets : SetsAreNeeded
no_sets before after o p h =
    two_means (codes "fence") {s = Err BadOperand} refl o p (⊎_elim (λ h. rw (no_set before h) refl)
    (λ h. bad_after (named sets before) _ (λ n. rw (no_set after h) refl)) h)
