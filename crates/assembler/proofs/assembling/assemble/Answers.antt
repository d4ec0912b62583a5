use Rattle.image.specs.Lines.{labels_of}
use Rattle.assembler.proofs.Done.{fits_so, placed_so}
use Rattle.assembler.proofs.Rising.{rows_rise}
use Rattle.assembler.proofs.assembling.assemble.Goals as goal

pub image_of-requires : goal.image_of-requires
image_of-requires c =
    rows_rise c.args.text.now c.saturating_add-limit.result c.in-Ok.program.items
    (labels_of c.in-Ok-lay_out.layout.labels.entries) c.in-Ok-lay_out.layout.rows.items c.in-Ok-lay_out.layout.end c.in-Ok.ensures.answers
    (rw c.as_slice.ensures.value at c.in-Ok-lay_out.ensures)

pub returns-in-Ok-fill-clause-answers : goal.returns-in-Ok-fill-clause-answers
returns-in-Ok-fill-clause-answers c =
    placed_so c.args.text.now c.args.size c.image_of.result c.in-Ok.program.items
    (labels_of c.in-Ok-lay_out.layout.labels.entries) c.in-Ok-lay_out.layout.rows.items c.in-Ok-lay_out.layout.end c.in-Ok-fill.bytes.items c.in-Ok.ensures.answers (rw c.saturating_add-limit.ensures at rw c.as_slice.ensures.value at c.in-Ok-lay_out.ensures) (rw c.as_slice-2.ensures.value at c.in-Ok-fill.ensures) c.image_of.ensures.bytes c.image_of.ensures.entry c.image_of.ensures.rows c.image_of.ensures.labels c.image_of.ensures.end

pub returns-in-Ok-fill-clause-fits : goal.returns-in-Ok-fill-clause-fits
returns-in-Ok-fill-clause-fits c =
    fits_so c.args.size c.image_of.result c.in-Ok.program.items
    (labels_of c.in-Ok-lay_out.layout.labels.entries) c.in-Ok-lay_out.layout.rows.items c.in-Ok-lay_out.layout.end c.in-Ok-fill.bytes.items
    (rw c.saturating_add-limit.ensures at rw c.as_slice.ensures.value at c.in-Ok-lay_out.ensures)
    (rw c.as_slice-2.ensures.value at c.in-Ok-fill.ensures) c.image_of.ensures.bytes
