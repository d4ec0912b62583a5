use Rattle.diagnostics.proofs.Common.{ap, errors_found, errors_read, IfOk, map, None, program_errors, program_of, read_lines, Some, subst, value_in, ◌∙◌, ◌≡◌}
use Rattle.diagnostics.proofs.Finding.{read_so}
use Rattle.diagnostics.proofs.passes.line_errors.Goals as goal

pub returns-in-None : goal.returns-in-None
returns-in-None c =
    let texts = map (λ t. t.now) c.args.texts.now in
    let none : None ≡ value_in (read_lines 1 texts) = rw c.in-None.is at c.in_ok-read_program.ensures ∙ read_so 1 texts in
    subst (λ l. IfOk c.unreadable.result (λ list. errors_found list.items ≡ l)) (ap (errors_read texts) none) c.unreadable.ensures

pub returns-in-Some : goal.returns-in-Some
returns-in-Some c =
    let texts = map (λ t. t.now) c.args.texts.now in
    let some : Some (program_of c.in-Some.program.items) ≡ value_in (read_lines 1 texts) = rw c.in-Some.is at c.in_ok-read_program.ensures
    ∙ read_so 1 texts in
    subst (λ l. IfOk c.program_errors.result (λ list. errors_found list.items ≡ l))
    (ap (λ p. program_errors (program_of p)) c.as_slice.ensures.value ∙ ap (errors_read texts) some) c.program_errors.ensures
