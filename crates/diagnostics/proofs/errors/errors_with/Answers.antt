use Rattle.diagnostics.proofs.Common.{ap, arith, IfOk, length, line_errors, lines, located_among, located_in, refl, subst, ◌∙◌, ◌≡◌, ◌≤◌}
use Rattle.assembler.proofs.Reading.{no_text, too_long}
use Rattle.diagnostics.proofs.Located.{lines_told, whole_told}
use Rattle.diagnostics.proofs.errors.errors_with.Goals as goal

pub returns-then-text-gt-TEXT_LIMIT-clause-errors : goal.returns-then-text-gt-TEXT_LIMIT-clause-errors
returns-then-text-gt-TEXT_LIMIT-clause-errors c =
    subst (λ l. IfOk c.only.result (λ list. located_in list.items ≡ l))
    (whole_told c.args.text.now _ c.args.whole (too_long c.args.text.now c.if-text-gt-TEXT_LIMIT.true) c.requires) c.only.ensures.errors

pub returns-in-Ok-clause-errors : goal.returns-in-Ok-clause-errors
returns-in-Ok-clause-errors c =
    let few : length c.args.text.now ≤ 1048576 = omega arith in
    subst (λ l. IfOk c.errors_of_lines.result (λ list. located_in list.items ≡ l))
    (ap (λ t. located_among (lines t) (line_errors (lines t))) c.in-Ok.ensures.cases.0
    ∙ lines_told c.args.text.now few c.in-Ok.ensures.cases.1) c.errors_of_lines.ensures.errors

pub returns-in-Err-clause-errors : goal.returns-in-Err-clause-errors
returns-in-Err-clause-errors c =
    let few : length c.args.text.now ≤ 1048576 = omega arith in
    subst (λ l. IfOk c.only-in-Err.result (λ list. located_in list.items ≡ l))
    (whole_told c.args.text.now _ c.args.whole
    (no_text c.args.text.now _ few c.in-Err.ensures.cases.0 refl) c.requires) c.only-in-Err.ensures.errors
