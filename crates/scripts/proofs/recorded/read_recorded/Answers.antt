use Rattle.std.proofs.Common.{length, arith, sym, ap, ◌∙◌}
use Rattle.scripts.proofs.Recording.{ended, less, one_more, start, whole}
use Rattle.scripts.proofs.recorded.read_recorded.Goals as goal

pub loop-end-init : goal.loop-end-init
loop-end-init c = record { left = rw c.new-steps.ensures.items (start c.args.text.now); room = omega arith }

pub loop-end-preserved : goal.loop-end-preserved
loop-end-preserved c =
    let found = sym c.end_of_line.ensures ∙ c.in-Some.is in
    let step = one_more c.args.text.now c.loop-end.rest.now c.loop-end.steps.items _ c.loop-end.number c.in-Some.end
    c.loop-end.invariant.left found (rw c.divided.ensures.line at c.in-Ok.ensures.ok) in
    let shorter = less c.loop-end.rest.now c.in-Some.end found in
    let size = ap length c.divided.ensures.rest in
    record { left = rw c.divided.ensures.rest step; room = omega (arith, shorter, size, c.loop-end.invariant.room) }

pub returns-in-Err-Line : goal.returns-in-Err-Line
returns-in-Err-Line c =
    ended c.args.text.now c.loop-end.rest.now c.loop-end.steps.items c.loop-end.number c.in-Some.end
    c.in-Err-Line.field-0-0 c.last_line.result c.loop-end.invariant.left (sym c.end_of_line.ensures ∙ c.in-Some.is)
    (rw (c.in-Err-Line.field-0-is, c.divided.ensures.line) at c.in-Err-Line.ensures.err)
    (rw (c.in-Err-Line.ensures.kept, c.has_no_line.ensures, c.divided.ensures.line, c.divided.ensures.rest) at c.last_line.ensures)

pub returns : goal.returns
returns c =
    whole c.args.text.now c.loop-end.rest.now c.loop-end.steps.items c.loop-end.number c.loop-end.invariant.left
    (sym c.end_of_line.ensures ∙ c.in_default.is)

pub loop-end-smaller : goal.loop-end-smaller
loop-end-smaller c =
    rw c.divided.ensures.rest (less c.loop-end.rest.now c.in-Some.end (sym c.end_of_line.ensures ∙ c.in-Some.is))
