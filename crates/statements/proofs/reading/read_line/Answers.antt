use Rattle.statements.proofs.Common.{ap, fields, labels_of, OrNoMemory, rest_of, statement_in, subst, ◌∙◌}
use Rattle.statements.proofs.Said.{read_so}

pub returns-in-Ok : Rattle.statements.proofs.reading.read_line.Goals.returns-in-Ok
returns-in-Ok c =
    let content = c.without_comment.ensures in
    read_so c.args.line.now c.in-Ok.labelled.labels c.in-Ok.labelled.rest.now c.statement_in-statement.result c.line_of.result
    (c.in-Ok.ensures.labels ∙ ap (λ t. labels_of (fields 58 t)) content)
    (c.in-Ok.ensures.rest ∙ ap (λ t. rest_of (fields 58 t)) content)
    (subst (λ t. OrNoMemory c.statement_in-statement.result (statement_in t)) c.trimmed.ensures c.statement_in-statement.ensures)
    c.line_of.ensures
