-- Texts that have no space at an end.
use Rattle.answers.proofs.Common.{[], ap, Bool, cond, eqb-true, false, List, refl, reverse, reverse-append, reverse-reverse, sym, true, without_leading_spaces, without_trailing_spaces, ℕ, ◌++◌, ◌==◌, ◌∙◌, ◌∷◌, ◌≡◌, ◌≢◌}

pub none_leads : (text : List ℕ) → ((rest : List ℕ) → text ≢ 32 ∷ rest) → without_leading_spaces text ≡ text
none_leads [] none = refl
none_leads (b ∷ text) none =
    let P : Bool → Type 0 = λ v. (b == 32) ≡ v → cond v (without_leading_spaces text) (b ∷ text) ≡ b ∷ text in
    let go : P (b == 32) = elim (b == 32) as P [
      | true ↦ λ v. absurd (none text (ap (λ x. x ∷ text) (eqb-true b 32 v)))
      | false ↦ λ v. refl
    ] in go refl

pub none_trails : (text : List ℕ) → ((front : List ℕ) → text ≢ front ++ 32 ∷ []) → without_trailing_spaces text ≡ text
none_trails text none =
    let leads : (rest : List ℕ)
    → reverse text ≢ 32 ∷ rest = λ rest e. none (reverse rest)
    (sym (reverse-reverse text) ∙ ap reverse e ∙ reverse-append (32 ∷ []) rest) in
    ap reverse (none_leads (reverse text) leads) ∙ reverse-reverse text
