use Rattle.std.proofs.Common.{◌∙◌, Some, None, arith}
use Rattle.stepping.proofs.Going.{all_went, one_more}
use Rattle.stepping.proofs.runner.Runner.go_back.Goals as goal

pub returns-in-Some-clause-run : goal.returns-in-Some-clause-run
returns-in-Some-clause-run c =
    one_more c.args.most c.loop-went.went c.args.self.now c.loop-went.self c.tick_back.new.self c.in-Ok.tick (Some c.in-Some.ending)
    c.loop-went-test.true c.loop-went.invariant.goes c.in-Ok.ensures.tick c.in-Some.ensures

pub loop-went-preserved : goal.loop-went-preserved
loop-went-preserved c =
    let more = one_more c.args.most c.loop-went.went c.args.self.now c.loop-went.self c.tick_back.new.self c.in-Ok.tick None
    c.loop-went-test.true c.loop-went.invariant.goes c.in-Ok.ensures.tick c.in_default-ending_of.ensures in
    record {
      goes = more.1.1;
      few = more.1.0;
      goal = c.in-Ok.ensures.goal ∙ c.loop-went.invariant.goal;
      retired = omega (arith, c.in-Ok.ensures.retired, c.loop-went.invariant.retired);
    }

pub returns-clause-run : goal.returns-clause-run
returns-clause-run c =
    all_went c.args.most c.loop-went.went c.args.self.now c.loop-went.self c.loop-went.invariant.few c.loop-went-test.false
    c.loop-went.invariant.goes
