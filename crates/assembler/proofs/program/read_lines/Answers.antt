use Rattle.assembler.proofs.Common.{arith, lines}
use Rattle.assembler.proofs.Reading.{line_more, lines_all, no_line}
use Rattle.assembler.proofs.program.read_lines.Goals as goal

pub lines-preserved : goal.lines-preserved
lines-preserved c = record {
  count = omega (arith, c.lines.invariant.count, c.first_line.ensures.smaller);
  left =
      line_more _ (lines c.lines.rest.now) _ _ c.first_line.result.0.now c.lines.program.items _ c.lines.invariant.left
      c.first_line.ensures.lines c.in_default.ensures;
}

pub returns : goal.returns
returns c =
    lines_all _ (lines c.lines.rest.now) _ c.lines.program.items c.lines.invariant.left (no_line c.lines.rest.now c.lines-test.ensures)
