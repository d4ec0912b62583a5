use Rattle.std.proofs.Common.{◌-◌, ◌≤◌}
use Rattle.execution.specs.Traces.{WentBack}
use Rattle.execution.proofs.trace.go_back.Given as goal

abbrev pub invariant-loop-made : goal.invariant-loop-made
invariant-loop-made l = (l.made ≤ l.steps) × WentBack l.made l.fn.runner l.runner × (l.runner.retired ≤ l.fn.runner.retired)

abbrev pub decreases-loop-made : goal.decreases-loop-made
decreases-loop-made l = l.steps - l.made
