use Rattle.scripts.proofs.Common.{ap, arith, length, rest_of_lines, ◌<◌, ◌≡◌}
use Rattle.scripts.proofs.Dividing.{shorter}
use Rattle.scripts.proofs.Going.{empty, ended, filled, one_more, refused, start}
use Rattle.scripts.proofs.script.read_script.Goals as goal

pub loop-after-init : goal.loop-after-init
loop-after-init c = record { left = rw c.new-steps.ensures.items (start c.args.text.now); room = omega arith }

pub returns-then-is_empty : goal.returns-then-is_empty
returns-then-is_empty c =
    let none : length (rest_of_lines c.loop-after.rest.now) ≡ 0 = rw (← c.first_line.ensures.rest) (empty _ c.if-is_empty.ensures) in
    ended c.args.text.now c.loop-after.rest.now c.loop-after.steps.items c.loop-after.number c.ended.result c.loop-after.invariant.left none
    (rw c.first_line.ensures.line at c.ended.ensures)

pub returns-in-Err : goal.returns-in-Err
returns-in-Err c =
    let some : 0 < length (rest_of_lines c.loop-after.rest.now) = rw (← c.first_line.ensures.rest) (filled _ c.if-is_empty.ensures) in
    refused c.args.text.now c.loop-after.rest.now c.loop-after.steps.items c.loop-after.number c.in-Err.fault c.loop-after.invariant.left some
    (rw c.first_line.ensures.line at c.in-Err.ensures.err)

pub loop-after-preserved : goal.loop-after-preserved
loop-after-preserved c =
    let some : 0 < length (rest_of_lines c.loop-after.rest.now) = rw (← c.first_line.ensures.rest) (filled _ c.if-is_empty.ensures) in
    let less = shorter c.loop-after.rest.now some in
    let step = one_more c.args.text.now c.loop-after.rest.now c.loop-after.steps.items _ c.loop-after.number c.loop-after.invariant.left some
    (rw c.first_line.ensures.line at c.in_default.ensures.ok) in
    let same : length c.first_line.result.1.now ≡ length (rest_of_lines c.loop-after.rest.now) = ap length c.first_line.ensures.rest in
    record { left = rw c.first_line.ensures.rest step; room = omega (arith, less, same, c.loop-after.invariant.room) }
