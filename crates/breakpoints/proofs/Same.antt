-- A word or a sign spells one token at most.
use Rattle.breakpoints.proofs.Common.{[], ap, List, refl, Spelled, Token, ℕ, ◌∙◌, ◌∷◌, ◌≡◌}
use Rattle.breakpoints.proofs.Words.{one_token}

pub spelled_same : (tokens others : List Token) (list : List (List ℕ)) → Spelled tokens list → Spelled others list → tokens ≡ others
spelled_same [] [] [] a b = refl
spelled_same [] [] (bytes ∷ list) a b = absurd a
spelled_same [] (other ∷ others) [] a b = absurd b
spelled_same [] (other ∷ others) (bytes ∷ list) a b = absurd a
spelled_same (token ∷ tokens) others [] a b = absurd a
spelled_same (token ∷ tokens) [] (bytes ∷ list) a b = absurd b
spelled_same (token ∷ tokens) (other ∷ others) (bytes ∷ list) a b =
    ap (λ (x : Token). x ∷ tokens) (one_token token other bytes a.0 b.0)
    ∙ ap (λ (x : List Token). other ∷ x) (spelled_same tokens others list a.1 b.1)
