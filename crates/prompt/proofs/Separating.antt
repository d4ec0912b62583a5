-- Where a separator is found.
use Rattle.std.proofs.Common.{◌≡◌, ℕ, ◌+◌, ◌-◌, ◌≤◌, Bool, false, cond, List, [], ◌∷◌, length, take, drop, get_or, Option, Some, None, option_map, refl, sym, ap, ◌∙◌, arith}
use Rattle.std.proofs.lemmas.List.{take_all}
use Rattle.prompt.specs.Separators.{first_at, separates}
use Rattle.prompt.specs.declared.separator.Separator.{Separator}

-- a place in what is left, where the byte after what was looked at has this place
abbrev pub later : ℕ → Option ℕ → Option ℕ
later at None = None
later at (Some n) = Some (at + n - 1)

-- where none is at the next place, it is later
pub goes_on : (separator : Separator) (b at : ℕ) (text : List ℕ) → separates separator b text ≡ false
    → later at (first_at separator (b ∷ text)) ≡ later (at + 1) (first_at separator text)
goes_on separator b at text none =
    ap (λ (t : Bool). later at (cond t (Some 1) (option_map (λ n. 1 + n) (first_at separator text)))) none
    ∙ one_on (first_at separator text) where
      one_on : (o : Option ℕ) → later at (option_map (λ n. 1 + n) o) ≡ later (at + 1) o
      one_on None = refl
      one_on (Some n) = let same : at + (1 + n) - 1 ≡ at + 1 + n - 1 = omega arith in ap (λ (x : ℕ). Some x) same

-- so it is of a text that is taken apart at its first byte
pub record GoesOn (separator : Separator) (at : ℕ) (text after : List ℕ) : Type 0 where
  pub first : first_at separator text ≡ later (at + 1) (first_at separator after)
  pub place : at + 1 + length after ≡ 1 + length text

pub after_first : (separator : Separator) (text rest : List ℕ) (at : ℕ) → 1 ≤ length rest
    → false ≡ separates separator (get_or rest 0 0) (take (length rest - 1) (drop 1 rest))
    → first_at separator text ≡ later at (first_at separator rest) → at + length rest ≡ 1 + length text
    → GoesOn separator at text (take (length rest - 1) (drop 1 rest))
after_first separator text [] at some none first place = absurd (omega (arith, some))
after_first separator text (b ∷ rest) at some none first place =
    let size : length (b ∷ rest) - 1 ≡ length rest = omega arith in
    let all : take (length (b ∷ rest) - 1) rest ≡ rest = take_all (length (b ∷ rest) - 1) rest (omega (arith, size)) in
    record {
      first = first ∙ goes_on separator b at rest (sym (none ∙ ap (separates separator b) all)) ∙ ap (λ (l : List ℕ). later (at + 1) (first_at separator l)) (sym all);
      place = ap (λ (l : List ℕ). at + 1 + length l) all ∙ (let h : at + 1 + length rest ≡ 1 + length text = omega (arith, place) in h);
    }
