use Rattle.std.proofs.Common.{rules, string_bytes, arith}
use Rattle.execution.proofs.Told.{trace_more}

pub loop-made-preserved : Rattle.execution.proofs.trace.steps_text.Goals.loop-made-preserved
loop-made-preserved c = (
  search rules,
  trace_more c.loop-made.made c.args.runner.now c.loop-made.runner c.push_step.new.runner (string_bytes c.loop-made.told)
      (string_bytes c.push_step.new.told) c.loop-made.invariant.1 c.in_ok-push_step.ensures.step,
  omega (arith, c.loop-made.invariant.2, c.push_step.ensures.retired),
)
