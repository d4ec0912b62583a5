use Rattle.std.proofs.Common.{arith}
use Rattle.variables.proofs.Loops.{count_on}

pub loop-i-preserved : Rattle.variables.proofs.handles.count_new.Goals.loop-i-preserved
loop-i-preserved c = record {
  counted =
      count_on c.args.known.now c.args.targets.now c.loop-i.i c.loop-i.count c.count_one-count.result _ c.loop-i-test.true c.count_one-count.ensures.count c.loop-i.invariant.counted;
  few = omega (arith, c.count_one-count.ensures.small, c.loop-i.invariant.few);
}
