use Rattle.std.proofs.Common.{◌∙◌}
use Rattle.assembler.proofs.Labelled.{entry_none, entry_some, no_rows, some_rows}
use Rattle.assembler.proofs.assembling.entry_of.Goals as goal

pub returns-in-Some : goal.returns-in-Some
returns-in-Some c = entry_some c.args.layout.now.labels.entries c.args.layout.now.rows.items c.in-Some.start.now c.in-Some.ensures.value

pub returns-in-empty : goal.returns-in-empty
returns-in-empty c =
    no_rows c.args.layout.now.rows.items (rw c.as_slice.ensures.value at c.in-empty.len_below)
    ∙ entry_none c.args.layout.now.labels.entries c.args.layout.now.rows.items c.in_default.ensures.value

pub returns-in-len1-up : goal.returns-in-len1-up
returns-in-len1-up c =
    rw c.as_slice.ensures.value
    (some_rows c.args.layout.now.rows.items (0, 0, 0) (rw c.as_slice.ensures.value at c.in-len1-up.len_at_least))
    ∙ entry_none c.args.layout.now.labels.entries c.args.layout.now.rows.items c.in_default.ensures.value
