use Rattle.diagnostics.proofs.Common.{length, lines}
use Rattle.std.proofs.lemmas.Iterator.Splits.{YieldsList-from_lines}
use Rattle.std.proofs.lemmas.Iterator.Consumers.{YieldsList-turn, YieldsList-end}
use Rattle.diagnostics.proofs.Lines.{here, nowhere}
use Rattle.diagnostics.proofs.line_numbers.line_after.Goals as goal

pub returns-then-passed-count : goal.returns-then-passed-count
returns-then-passed-count c =
    let t = YieldsList-turn
    (YieldsList-from_lines {s = c.into_iter-line-iterator.result} c.args.text.now cc) c.loop-line.yielded _ c.loop-line.yielded_by _ _ c.in-Some.line c.in-Some.is c.next.ensures.steps in
    here (lines c.args.text.now) c.loop-line.passed c.args.count (length c.loop-line.yielded) c.in-Some.line.now c.if-passed-count.true
    c.loop-line.invariant.count t

pub returns : goal.returns
returns c =
    let t = YieldsList-end
    (YieldsList-from_lines {s = c.into_iter-line-iterator.result} c.args.text.now cc) c.loop-line.yielded _ c.loop-line.yielded_by _ _ c.in-None.is c.next.ensures.steps in
    nowhere (lines c.args.text.now) c.loop-line.passed c.args.count (length c.loop-line.yielded) c.loop-line.invariant.count
    c.loop-line.invariant.few t.1
