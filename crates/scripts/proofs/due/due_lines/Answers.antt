use Rattle.std.proofs.Common.{sym, ◌∙◌}
use Rattle.scripts.proofs.Told.{due_text}

pub returns-in-Ok-Some-clause-text : Rattle.scripts.proofs.due.due_lines.Goals.returns-in-Ok-Some-clause-text
returns-in-Ok-Some-clause-text c =
    due_text c.args.waiting _ c.in-Ok-Some.line c.after_slice.result
    (sym c.in-Ok-Some.field-0-is ∙ c.in-Ok-Some.ensures.line) c.after_slice.ensures
