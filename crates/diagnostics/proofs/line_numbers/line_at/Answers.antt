use Rattle.std.proofs.Common.{rules}
use Rattle.diagnostics.proofs.Lines.{of_no_text, of_text}
use Rattle.diagnostics.proofs.line_numbers.line_at.Goals as goal

pub returns-in-Ok : goal.returns-in-Ok
returns-in-Ok c =
    of_text c.args.text.now c.args.line _ c.in-Ok.ensures.cases.1 (search rules) (rw c.in-Ok.ensures.cases.0 at c.line_after.ensures)

pub returns-in-Err : goal.returns-in-Err
returns-in-Err c = of_no_text c.args.text.now c.args.line c.in-Err.ensures.cases.0
