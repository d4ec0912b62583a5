use Rattle.answers.proofs.Common.{[], arith, Bor, List, MatchOption, Option, strip_suffix_char, subst, sym, ℕ, ◌++◌, ◌∙◌, ◌∷◌, ◌≡◌, ◌≢◌}
use Rattle.answers.proofs.Trimming.{none_trails}

pub returns : Rattle.answers.proofs.spaces.without_trailing_spaces.Goals.returns
returns c =
    let left = c.loop-rest.left.now in
    let h = strip_suffix_char 32 left c.strip_suffix.result c.strip_suffix.ensures.cases (omega arith) in
    sym (none_trails left
    (subst (λ (r : Option (Bor (List ℕ))). MatchOption r ((front : List ℕ) → left ≢ front ++ 32 ∷ [])
    (λ x. left ≡ x.now ++ 32 ∷ [])) c.in_default.is h)) ∙ c.loop-rest.invariant.1
