use Rattle.stepping.proofs.Common.{ap, arith, turns_back, ◌∙◌}
use Rattle.stepping.proofs.Going.{all_went, ends_run, goes_goal, goes_join, goes_retire, run_retires}
use Rattle.stepping.proofs.runner.Runner.go.Goals as goal

pub stretch-stretch-requires-clause-few : goal.stretch-stretch-requires-clause-few
stretch-stretch-requires-clause-few c =
    omega (arith, goes_retire c.loop-went.went c.args.self.now c.loop-went.self c.loop-went.invariant.goes, c.loop-went.invariant.few, c.requires.few)

pub stretch-stretch-requires-clause-forward : goal.stretch-stretch-requires-clause-forward
stretch-stretch-requires-clause-forward c =
    ap turns_back (goes_goal c.loop-went.went c.args.self.now c.loop-went.self c.loop-went.invariant.goes) ∙ c.requires.forward

pub returns-in-Some : goal.returns-in-Some
returns-in-Some c =
    let run = ends_run c.args.most c.loop-went.went c.stretch-stretch.result.went c.args.self.now c.loop-went.self c.stretch-stretch.new.self
    c.in-Some.ending c.loop-went.invariant.few c.loop-went.invariant.goes (rw c.in-Some.is at c.stretch-stretch.ensures) in
    record { run = run; retired = run_retires c.args.most c.args.self.now _ c.stretch-stretch.new.self run }

pub loop-went-preserved : goal.loop-went-preserved
loop-went-preserved c =
    let s = rw c.in_default.is at c.stretch-stretch.ensures in record {
      goes = goes_join _ _ c.args.self.now c.loop-went.self c.stretch-stretch.new.self c.loop-went.invariant.goes s.1.1;
      few = omega (arith, c.loop-went.invariant.few, s.1.0);
    }

pub returns : goal.returns
returns c =
    let run = all_went c.args.most c.loop-went.went c.args.self.now c.loop-went.self c.loop-went.invariant.few c.loop-went-test.false c.loop-went.invariant.goes in
    record { run = run; retired = run_retires c.args.most c.args.self.now _ c.loop-went.self run }
