-- Texts that are compared, and the names of the registers.
use Rattle.rv32i.proofs.Common.{[], ap, eqb, false, List, refl, true, with_three, with_two, ℕ, ◌∙◌, ◌∷◌, ◌≡◌}
use Rattle.std.specs.Cmp.Lexicographic.{pointwise}
use Rattle.std.proofs.lemmas.Bool.{eq-eqb}

same_text : (xs : List ℕ) → pointwise eqb xs xs ≡ true
same_text [] = refl
same_text (x ∷ xs) = rw (eq-eqb x x refl) (same_text xs)

pub differ : (xs ys : List ℕ) → false ≡ pointwise eqb xs ys → xs ≡ ys → ⊥
differ xs ys other e = let s = same_text xs in let t : pointwise eqb xs xs ≡ pointwise eqb xs ys = ap (λ l. pointwise eqb xs l) e in cc

pub joined_two : (name a b p q text : List ℕ) → text ≡ with_two name a b → a ≡ p → b ≡ q → text ≡ with_two name p q
joined_two name a b p q text e f g = e ∙ ap (λ x. with_two name x b) f ∙ ap (λ x. with_two name p x) g

pub joined_three : (name a b c p q r text : List ℕ) → text ≡ with_three name a b c → a ≡ p → b ≡ q → c ≡ r → text ≡ with_three name p q r
joined_three name a b c p q r text e f g h =
    e ∙ ap (λ x. with_three name x b c) f ∙ ap (λ x. with_three name p x c) g ∙ ap (λ x. with_three name p q x) h
