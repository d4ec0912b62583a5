use Rattle.stepping.proofs.Common.{Goes, ◌-◌, ◌≤◌}
use Rattle.stepping.proofs.runner.Runner.go.Given as goal

abbrev pub invariant-loop-went : goal.invariant-loop-went
invariant-loop-went l = record { goes : Goes l.went l.fn.self l.self; few : l.went ≤ l.fn.most }

abbrev pub decreases-loop-went : goal.decreases-loop-went
decreases-loop-went l = l.fn.most - l.went
