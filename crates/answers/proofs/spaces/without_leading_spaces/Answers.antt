use Rattle.answers.proofs.Common.{arith, Bor, List, MatchOption, Option, strip_prefix_char, subst, sym, ℕ, ◌∙◌, ◌∷◌, ◌≡◌, ◌≢◌}
use Rattle.answers.proofs.Trimming.{none_leads}

pub returns : Rattle.answers.proofs.spaces.without_leading_spaces.Goals.returns
returns c =
    let left = c.loop-rest.left.now in
    let h = strip_prefix_char 32 left c.strip_prefix.result c.strip_prefix.ensures.cases (omega arith) in
    sym (none_leads left
    (subst (λ (r : Option (Bor (List ℕ))). MatchOption r ((rest : List ℕ) → left ≢ 32 ∷ rest) (λ x. left ≡ 32 ∷ x.now)) c.in_default.is h))
    ∙ c.loop-rest.invariant.1
