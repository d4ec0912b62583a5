-- A text and the blanks round it.
use Rattle.std.proofs.Common.{◌≡◌, ℕ, ◌<◌, Bool, true, false, cond, List, [], ◌∷◌, ◌++◌, length, reverse, refl, sym, ap, ◌∙◌, arith, append_assoc}
use Rattle.std.specs.List.{list_all}
use Rattle.std.proofs.lemmas.List.{reverse-append, reverse-reverse, append-nil}
use Rattle.byte_strings.specs.Blanks.{is_blank, trimmed, without_leading_blanks, without_trailing_blanks}
use Rattle.byte_strings.proofs.Conjunctions.{and_left, and_right, and_both, all_append, all_reverse}

-- whether a text begins with a blank
abbrev pub begins_blank : List ℕ → Bool
begins_blank [] = false
begins_blank (b ∷ text) = is_blank b

-- leading blanks go, and nothing else
pub blanks_go : (before rest : List ℕ) → list_all is_blank before ≡ true
    → without_leading_blanks (before ++ rest) ≡ without_leading_blanks rest
blanks_go [] rest h = refl
blanks_go (b ∷ before) rest h = rw (and_left (is_blank b) _ h) (blanks_go before rest (and_right (is_blank b) _ h))

pub others_stay : (text : List ℕ) → begins_blank text ≡ false → without_leading_blanks text ≡ text
others_stay [] h = refl
others_stay (b ∷ text) h = rw h refl

pub none_left : (text : List ℕ) → begins_blank (without_leading_blanks text) ≡ false
none_left [] = refl
none_left (b ∷ text) =
    let P : Bool → Type 0 = λ t. is_blank b ≡ t → begins_blank (cond t (without_leading_blanks text) (b ∷ text)) ≡ false in
    let go : P (is_blank b) = elim (is_blank b) as P [
      | true ↦ λ t. none_left text
      | false ↦ λ t. t
    ] in go refl

pub twice : (text : List ℕ) → without_leading_blanks (without_leading_blanks text) ≡ without_leading_blanks text
twice text = others_stay (without_leading_blanks text) (none_left text)

-- a text is its leading blanks and the rest
pub record Led (text : List ℕ) : Type 0 where
  pub blanks : List ℕ
  pub all : list_all is_blank blanks ≡ true
  pub parted : text ≡ blanks ++ without_leading_blanks text
  pub some : begins_blank text ≡ true → 0 < length blanks

pub led : (text : List ℕ) → Led text
led [] = record { blanks = []; all = refl; parted = refl; some = λ h. cc }
led (b ∷ text) =
    let others = led text in
    let P : Bool → Type 0 = λ t. is_blank b ≡ t
    → (bs : List ℕ) × ((list_all is_blank bs ≡ true) × (b ∷ text ≡ bs ++ cond t (without_leading_blanks text) (b ∷ text)) ×
    (t ≡ true → 0 < length bs)) in
    let go : P (is_blank b) = elim (is_blank b) as P [
      | true ↦ λ t. (b ∷ others.blanks, (and_both _ _ t others.all, ap (λ (l : List ℕ). b ∷ l) others.parted, λ h. omega arith))
      | false ↦ λ t. ([], (refl, refl, λ h. cc))
    ] in let r = go refl in record { blanks = r.0; all = r.1.0; parted = r.1.1; some = r.1.2 }

-- a text is the blanks around it and what is between
pub record Round (text : List ℕ) : Type 0 where
  pub before : List ℕ
  pub after : List ℕ
  pub blank_before : list_all is_blank before ≡ true
  pub blank_after : list_all is_blank after ≡ true
  pub parted : text ≡ before ++ trimmed text ++ after
  pub some : begins_blank text ≡ true → 0 < length before

-- what is left without leading blanks is what is left without any, and blanks
pub record Ended (text : List ℕ) : Type 0 where
  pub after : List ℕ
  pub blank : list_all is_blank after ≡ true
  pub parted : text ≡ without_trailing_blanks text ++ after

pub ended : (text : List ℕ) → Ended text
ended text =
    let back = led (reverse text) in record {
      after = reverse back.blanks;
      blank = all_reverse is_blank back.blanks back.all;
      parted = sym (reverse-reverse text) ∙ ap reverse back.parted ∙ reverse-append back.blanks (without_leading_blanks (reverse text));
    }

pub round : (text : List ℕ) → Round text
round text =
    let lead = led text in
    let back = ended (without_leading_blanks text) in record {
      before = lead.blanks;
      after = back.after;
      blank_before = lead.all;
      blank_after = back.blank;
      parted = lead.parted ∙ ap (λ (l : List ℕ). lead.blanks ++ l) back.parted ∙ sym (append_assoc lead.blanks (trimmed text) back.after);
      some = lead.some;
    }

prefix_begins : (prefix rest text : List ℕ) → text ≡ prefix ++ rest → begins_blank text ≡ false → begins_blank prefix ≡ false
prefix_begins [] rest text e h = refl
prefix_begins (b ∷ prefix) rest text e h = sym (ap begins_blank e) ∙ h

-- what is left begins with no blank, and ends with none
pub trimmed_begins : (text : List ℕ) → begins_blank (trimmed text) ≡ false
trimmed_begins text =
    let back = ended (without_leading_blanks text) in
    prefix_begins (trimmed text) back.after (without_leading_blanks text) back.parted (none_left text)

pub trimmed_ends : (text : List ℕ) → begins_blank (reverse (trimmed text)) ≡ false
trimmed_ends text =
    ap begins_blank (reverse-reverse (without_leading_blanks (reverse (without_leading_blanks text))))
    ∙ none_left (reverse (without_leading_blanks text))

-- and such a text stays as it is
pub bare : (text : List ℕ) → begins_blank text ≡ false → begins_blank (reverse text) ≡ false → trimmed text ≡ text
bare text a b = ap without_trailing_blanks (others_stay text a) ∙ ap reverse (others_stay (reverse text) b) ∙ reverse-reverse text

pub trimmed_bare : (text : List ℕ) → trimmed (trimmed text) ≡ trimmed text
trimmed_bare text = bare (trimmed text) (trimmed_begins text) (trimmed_ends text)

pub all_gone : (text : List ℕ) → list_all is_blank text ≡ true → without_leading_blanks text ≡ []
all_gone text h = ap without_leading_blanks (sym (append-nil text)) ∙ blanks_go text [] h

-- what stands between blanks
pub between : (before text after : List ℕ) → list_all is_blank before ≡ true → list_all is_blank after ≡ true → trimmed text ≡ text
    → trimmed (before ++ text ++ after) ≡ text
between before [] after a b h =
    let none : without_leading_blanks (before ++ [] ++ after) ≡ [] = ap (λ (l : List ℕ). without_leading_blanks (l ++ after))
    (append-nil before) ∙ all_gone (before ++ after) (all_append is_blank before after a b) in
    ap without_trailing_blanks none
between before (c ∷ text) after a b h =
    let whole : List ℕ = c ∷ text in
    let first : begins_blank whole ≡ false = sym (ap begins_blank h) ∙ trimmed_begins whole in
    let last : begins_blank (reverse whole) ≡ false = sym (ap (λ l. begins_blank (reverse l)) h) ∙ trimmed_ends whole in
    let lead : without_leading_blanks (before ++ whole ++ after) ≡ whole ++ after = ap without_leading_blanks
    (append_assoc before whole after) ∙ blanks_go before (whole ++ after) a ∙ others_stay (whole ++ after) first in
    let tail : without_leading_blanks (reverse (whole ++ after)) ≡ reverse whole = ap without_leading_blanks (reverse-append whole after)
    ∙ blanks_go (reverse after) (reverse whole) (all_reverse is_blank after b) ∙ others_stay (reverse whole) last in
    ap without_trailing_blanks lead ∙ ap reverse tail ∙ reverse-reverse whole
