use Rattle.std.proofs.Common.{rules}
use Rattle.execution.proofs.Told.{back_once, back_retires}

pub loop-made-preserved : Rattle.execution.proofs.trace.go_back.Goals.loop-made-preserved
loop-made-preserved c = (
  search rules,
  back_once c.loop-made.made c.args.runner.now c.loop-made.runner c.begin.new.self c.tick.new.self c.in_ok-tick.field-0
      c.loop-made.invariant.1 c.begin.ensures c.in_ok-tick.ensures.tick,
  back_retires c.args.runner.now c.loop-made.runner c.begin.new.self c.tick.new.self c.begin.ensures c.tick.ensures.back
      c.loop-made.invariant.2,
)
