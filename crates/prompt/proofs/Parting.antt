-- Where words begin and end.
use Rattle.std.proofs.Common.{◌≡◌, ℕ, ◌+◌, ◌≤◌, ◌<◌, Bool, true, false, cond, List, [], ◌∷◌, ◌++◌, length, reverse, take, get_or, refl, ap, ◌∙◌, arith, length-append}
use Rattle.std.proofs.lemmas.List.{reverse-append, take_more}
use Rattle.std.specs.List.{position_or_len}
use Rattle.byte_strings.proofs.Trimming.{ended, led}
use Rattle.byte_strings.specs.Blanks.{is_blank, trimmed, without_leading_blanks}
use Rattle.prompt.specs.Parts.{leading_blanks}

-- ---- blanks before a text

pub fewer : (text : List ℕ) → length (without_leading_blanks text) ≤ length text
fewer text = let l = led text in omega (arith, ap length l.parted, length-append l.blanks (without_leading_blanks text))

pub leaves_room : (text : List ℕ) → leading_blanks text + length (trimmed text) ≤ length text
leaves_room text =
    let few = fewer text in
    let e = ended (without_leading_blanks text) in
    omega (arith, few, ap length e.parted, length-append (trimmed text) e.after)

-- ---- the last one

abbrev pub trailing : List ℕ → ℕ
trailing text = position_or_len is_blank (reverse text)

first_of : (x : ℕ) (ys : List ℕ) → position_or_len is_blank (x ∷ ys) ≡ cond (is_blank x) 0 (1 + position_or_len is_blank ys)
first_of x ys = by (is_blank x) refl where
  by : (b : Bool) → is_blank x ≡ b → position_or_len is_blank (x ∷ ys) ≡ cond (is_blank x) 0 (1 + position_or_len is_blank ys)
  by true t = rw t refl
  by false t = rw t refl

trailing_last : (xs : List ℕ) (x : ℕ) → trailing (xs ++ x ∷ []) ≡ cond (is_blank x) 0 (1 + trailing xs)
trailing_last xs x = ap (position_or_len is_blank) (reverse-append xs (x ∷ [])) ∙ first_of x (reverse xs)

pub trailing_next : (text : List ℕ) (i d : ℕ) → i < length text
    → trailing (take (i + 1) text) ≡ cond (is_blank (get_or text i d)) 0 (1 + trailing (take i text))
trailing_next text i d below = ap trailing (take_more text i d below) ∙ trailing_last (take i text) (get_or text i d)
