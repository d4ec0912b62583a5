-- Nothing that is typed is lost: a text that is taken apart is its parts.
use Rattle.std.proofs.Common.{◌≡◌, ℕ, ◌+◌, Bool, true, false, not, cond, List, [], ◌∷◌, ◌++◌, length, take, drop, Option, Some, None, option_map, refl, sym, ap, ◌∙◌, subst, eqb, arith, append-nil, zero, suc}
use Rattle.std.proofs.lemmas.Bool.Decides.{nat_tests}
use Rattle.std.proofs.lemmas.List.{take-append-drop}
use Rattle.std.proofs.lemmas.List.Elements.{filter-append}
use Rattle.std.proofs.lemmas.Slice.Eq.{bytes_eq-Decides}
use Rattle.std.specs.List.{list_all}
use Rattle.std.specs.Prelude.{bytes_eq, codes}
use Rattle.byte_strings.proofs.Conjunctions.{and_left, and_right}
use Rattle.byte_strings.proofs.Trimming.{round}
use Rattle.byte_strings.specs.Blanks.{is_blank, trimmed}
use Rattle.prompt.specs.Laws.{ink}
use Rattle.prompt.specs.Lines.{counted, is_counted}
use Rattle.prompt.specs.Parts.{Placed, after_first, before_last, first_length, first_word, last_start, last_word}
use Rattle.prompt.specs.Separators.{begins_assignment, count_of, first_at, parted, parted_at, separates}
use Rattle.prompt.specs.declared.separator.Separator.{Separator}
use Rattle.prompt.specs.declared.separator.Separator.TheVariants.{If, Hit, Assignment}

-- ---- blanks go

pub ink_append : (xs ys : List ℕ) → ink (xs ++ ys) ≡ ink xs ++ ink ys
ink_append xs ys = filter-append (λ b. not (is_blank b)) xs ys

blanks_gone : (xs : List ℕ) → list_all is_blank xs ≡ true → ink xs ≡ []
blanks_gone [] h = refl
blanks_gone (b ∷ xs) h = rw (and_left (is_blank b) _ h) (blanks_gone xs (and_right (is_blank b) _ h))

pub ink_trimmed : (text : List ℕ) → ink (trimmed text) ≡ ink text
ink_trimmed text =
    let r = round text in
    let before = blanks_gone r.before r.blank_before in
    let after = blanks_gone r.after r.blank_after in
    sym (ap ink r.parted ∙ ink_append (r.before ++ trimmed text) r.after
    ∙ ap (λ (l : List ℕ). l ++ ink r.after) (ink_append r.before (trimmed text) ∙ ap (λ (l : List ℕ). l ++ ink (trimmed text)) before)
    ∙ ap (λ (l : List ℕ). ink (trimmed text) ++ l) after ∙ append-nil (ink (trimmed text)))

pub cut : (n : ℕ) (text : List ℕ) → ink text ≡ ink (take n text) ++ ink (drop n text)
cut n text = ap ink (sym (take-append-drop n text)) ∙ ink_append (take n text) (drop n text)

pub at_first : (p : Placed) → ink p.text ≡ ink (first_word p).text ++ ink (after_first p).text
at_first p =
    let n = first_length p.text in
    cut n p.text ∙ ap (λ (l : List ℕ). ink (take n p.text) ++ l) (sym (ink_trimmed (drop n p.text)))

at_last : (p : Placed) → ink p.text ≡ ink (before_last p).text ++ ink (last_word p).text
at_last p =
    let n = last_start p.text in
    cut n p.text ∙ ap (λ (l : List ℕ). l ++ ink (drop n p.text)) (sym (ink_trimmed (take n p.text)))

pub empty : (xs : List ℕ) → length xs ≡ 0 → xs ≡ []
empty [] none = refl
empty (x ∷ xs) none = absurd (omega (arith, none))

-- ---- separators

abbrev pub sign_of : Separator → List ℕ
sign_of If = codes "if"
sign_of Hit = codes "hit"
sign_of Assignment = codes "="

same_bytes : (xs ys : List ℕ) → bytes_eq xs ys ≡ true → xs ≡ ys
same_bytes xs ys h = (bytes_eq-Decides xs ys).0 h

equal_sign : (text : List ℕ) → begins_assignment text ≡ true → take 1 text ≡ codes "="
equal_sign [] h = absurd (let no : false ≡ true = h in cc)
equal_sign (b ∷ []) h = let is : b ≡ 61 = grind (arith, nat_tests) in ap (λ (c : ℕ). c ∷ []) is
equal_sign (b ∷ c ∷ text) h =
    let first : eqb b 61 ≡ true = and_left (eqb b 61) _ h in
    let is : b ≡ 61 = grind (arith, nat_tests) in ap (λ (c : ℕ). c ∷ []) is

begins : (separator : Separator) (b : ℕ) (text : List ℕ) → separates separator b text ≡ true
    → take (count_of separator) text ≡ sign_of separator
begins If b text h = same_bytes (take 2 text) (codes "if") (and_left (bytes_eq (take 2 text) (codes "if")) _ (and_right (is_blank b) _ h))
begins Hit b text h = same_bytes (take 3 text) (codes "hit") (and_left (bytes_eq (take 3 text) (codes "hit")) _ (and_right (is_blank b) _ h))
begins Assignment b text h = equal_sign text (and_right (not _) _ h)

stands : (separator : Separator) (text : List ℕ) (at : ℕ) → first_at separator text ≡ Some at
    → take (count_of separator) (drop at text) ≡ sign_of separator
stands separator [] at e = absurd (let no : None ≡ Some at = e in cc)
stands separator (b ∷ text) at e = by (separates separator b text) refl e (stands separator text) where
  later : (o : Option ℕ) → first_at separator text ≡ o → option_map (λ n. 1 + n) o ≡ Some at
      → ((n : ℕ) → first_at separator text ≡ Some n → take (count_of separator) (drop n text) ≡ sign_of separator)
      → take (count_of separator) (drop at (b ∷ text)) ≡ sign_of separator
  later None is e inner = absurd (let no : None ≡ Some at = e in cc)
  later (Some n) is e inner =
      let above : 1 + n ≡ at = cc in
      let place : at ≡ suc n = omega (arith, above) in
      subst (λ (k : ℕ). take (count_of separator) (drop k (b ∷ text)) ≡ sign_of separator) (sym place) (inner n is)

  by : (t : Bool) → separates separator b text ≡ t → cond t (Some 1) (option_map (λ n. 1 + n) (first_at separator text)) ≡ Some at
      → ((n : ℕ) → first_at separator text ≡ Some n → take (count_of separator) (drop n text) ≡ sign_of separator)
      → take (count_of separator) (drop at (b ∷ text)) ≡ sign_of separator
  by true t e inner =
      let first : 1 ≡ at = cc in
      subst (λ (k : ℕ). take (count_of separator) (drop k (b ∷ text)) ≡ sign_of separator) first (begins separator b text t)
  by false t e inner = later (first_at separator text) refl e inner

drop_none : (n : ℕ) → drop {A = ℕ} n [] ≡ []
drop_none zero = refl
drop_none (suc n) = refl

drop_again : (m n : ℕ) (xs : List ℕ) → drop n (drop m xs) ≡ drop (m + n) xs
drop_again zero n xs = let same : n ≡ 0 + n = omega arith in ap (λ (k : ℕ). drop k xs) same
drop_again (suc m) n [] = drop_none n ∙ sym (drop_none (suc m + n))
drop_again (suc m) n (x ∷ xs) =
    let same : suc (m + n) ≡ suc m + n = omega arith in
    drop_again m n xs ∙ ap (λ (k : ℕ). drop k (x ∷ xs)) same

-- what was parted is its parts, with the separator between them
abbrev pub InParts : Separator → List ℕ → Placed × Option Placed → Type 0
InParts separator text (q, None) = ink text ≡ ink q.text
InParts separator text (q, Some v) = ink text ≡ ink q.text ++ (ink (sign_of separator) ++ ink v.text)

pub in_parts : (separator : Separator) (p : Placed) → InParts separator p.text (parted separator p)
in_parts separator p = by (first_at separator p.text) refl where
  count : ℕ
  count = count_of separator

  by : (o : Option ℕ) → first_at separator p.text ≡ o → InParts separator p.text (parted_at (count_of separator) p o)
  by None e = refl
  by (Some at) e =
      let after = drop at p.text in
      let sign : ink (take (count_of separator) after) ≡ ink (sign_of separator) = ap ink (stands separator p.text at e) in
      let rest : drop (count_of separator) after ≡ drop (at + count_of separator) p.text = drop_again at (count_of separator) p.text in
      cut at p.text
      ∙ ap (λ (l : List ℕ). l ++ ink after) (sym (ink_trimmed (take at p.text)))
      ∙ ap (λ (l : List ℕ). ink (trimmed (take at p.text)) ++ l) (cut (count_of separator) after
      ∙ ap (λ (l : List ℕ). l ++ ink (drop (count_of separator) after)) sign
      ∙ ap (λ (l : List ℕ). ink (sign_of separator) ++ ink l) rest
      ∙ ap (λ (l : List ℕ). ink (sign_of separator) ++ l) (sym (ink_trimmed (drop (at + count_of separator) p.text))))

-- so is one with a number at its end
abbrev pub InCounted : List ℕ → Placed × Option Placed → Type 0
InCounted text (q, None) = ink text ≡ ink q.text
InCounted text (q, Some n) = ink text ≡ ink q.text ++ ink n.text

pub in_counted : (p : Placed) → InCounted p.text (counted p)
in_counted p = by (is_counted p) where
  by : (t : Bool) → InCounted p.text (cond t (before_last p, Some (last_word p)) (p, None))
  by true = at_last p
  by false = refl
