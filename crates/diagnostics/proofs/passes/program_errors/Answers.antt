use Rattle.diagnostics.proofs.Common.{[], arith, eqb-true, errors_found, IfOk, labels_of, length, List, program_of, refl, subst, sym, vec_len, ◌∙◌, ◌∷◌, ◌≡◌}
use Rattle.diagnostics.specs.declared.found.Found.{Found}
use Rattle.diagnostics.proofs.Finding.{next_pass}

none_found : (list : List Found) → length list ≡ 0 → errors_found list ≡ []
none_found [] h = refl
none_found (found ∷ others) h = absurd (omega (arith, h))

pub returns : Rattle.diagnostics.proofs.passes.program_errors.Goals.returns
returns c =
    let found = c.in_ok-found.field-0.found in
    let none : vec_len found ≡ 0 = eqb-true (vec_len found) 0 (sym c.is_empty.ensures ∙ c.if-not-is_empty.false) in
    subst (λ l. IfOk c.check_targets.result (λ list. errors_found list.items ≡ l))
    (next_pass (program_of c.args.program.now) (labels_of c.in_ok-found.field-0.labels.entries) (errors_found found.items)
    (none_found found.items (sym found.ok.0 ∙ none)) c.in_ok-found.ensures.errors c.in_ok-found.ensures.labels) c.check_targets.ensures
