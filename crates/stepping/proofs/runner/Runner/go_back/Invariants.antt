use Rattle.stepping.proofs.Common.{Goes, ◌-◌, ◌≡◌, ◌≤◌}
use Rattle.stepping.proofs.runner.Runner.go_back.Given as goal

abbrev pub invariant-loop-went : goal.invariant-loop-went
invariant-loop-went l = record {
  goes : Goes l.went l.fn.self l.self;
  few : l.went ≤ l.fn.most;
  goal : l.self.goal ≡ l.fn.self.goal;
  retired : l.self.retired ≤ l.fn.self.retired;
}

abbrev pub decreases-loop-went : goal.decreases-loop-went
decreases-loop-went l = l.fn.most - l.went
