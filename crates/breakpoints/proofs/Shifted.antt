-- The tokens are gone through one by one.
use Rattle.breakpoints.proofs.Common.{[], ap, drop, drop_more, get_or, length, List, None, parsed_from, Place, refl, shifted, Some, Token, ℕ, ◌+◌, ◌<◌, ◌∙◌, ◌∷◌, ◌≡◌}

-- where no tree has some tokens, none has them and more
pub never : (tokens : List Token) → parsed_from None tokens ≡ None
never [] = refl
never (token ∷ tokens) = never tokens

pub none_here : (tokens : List Token) (i : ℕ) (place : Place) (token : Token) → i < length tokens → get_or tokens i token ≡ token
    → shifted place token ≡ None → parsed_from (Some place) (drop i tokens) ≡ None
none_here tokens i place token h at e =
    ap (parsed_from (Some place)) (drop_more tokens i token h ∙ ap (λ t. t ∷ drop (i + 1) tokens) at)
    ∙ ap (λ p. parsed_from p (drop (i + 1) tokens)) e ∙ never (drop (i + 1) tokens)
