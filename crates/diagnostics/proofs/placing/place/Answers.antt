use Rattle.diagnostics.proofs.Common.{ap, defines_twice, labels_of, misplaced_so, source_of, unwrap_or, ◌∙◌}
use Rattle.diagnostics.proofs.Finding.{misplaced_same}

pub returns-clause-kind : Rattle.diagnostics.proofs.placing.place.Goals.returns-clause-kind
returns-clause-kind c =
    let before = labels_of c.args.reached.now.labels.entries in
    let address = c.args.reached.now.address in
    c.misplaced.ensures
    ∙ ap (λ t. misplaced_so c.args.limit t address (source_of c.args.source.now))
    (c.in_ok-again.ensures.again ∙ ap (λ a. defines_twice a before c.as_slice-names.result.now) c.unwrap_or.ensures
    ∙ ap (defines_twice (unwrap_or address 0) before) c.as_slice-names.ensures)
    ∙ misplaced_same c.args.limit before address (source_of c.args.source.now)
