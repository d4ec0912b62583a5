use Rattle.diagnostics.proofs.Common.{ap, errors_found, IfOk, line_errors, lines, located_among, located_in, map, subst, ◌∙◌, ◌≡◌}

pub returns-clause-errors : Rattle.diagnostics.proofs.errors.errors_of_lines.Goals.returns-clause-errors
returns-clause-errors c =
    let texts : map (λ t. t.now) c.in_ok-texts.texts.items ≡ lines c.args.text.now = c.in_ok-texts.ensures.lines in
    let first = ap (map (λ t. t.now)) c.as_slice.ensures.value ∙ texts in
    let third = ap (map (λ t. t.now)) c.as_slice-2.ensures.value ∙ texts in
    subst (λ l. IfOk c.tell_all.result (λ list. located_in list.items ≡ l))
    (ap (λ l. located_among l (errors_found c.as_slice-3.result.now)) third
    ∙ ap (λ l. located_among (lines c.args.text.now) (errors_found l)) c.as_slice-3.ensures.value
    ∙ ap (located_among (lines c.args.text.now)) (c.in_ok-found.ensures ∙ ap line_errors first)) c.tell_all.ensures.errors
