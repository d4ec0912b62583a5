use Rattle.std.proofs.Common.{◌+◌, ◌-◌, ◌≤◌, string_bytes}
use Rattle.execution.specs.Traces.{Traced}
use Rattle.execution.proofs.trace.steps_text.Given as goal

abbrev pub invariant-loop-made : goal.invariant-loop-made
invariant-loop-made l = (l.made ≤ l.steps) × Traced l.made l.fn.runner (string_bytes l.told) l.runner × (l.runner.retired ≤ l.fn.runner.retired + l.made)

abbrev pub decreases-loop-made : goal.decreases-loop-made
decreases-loop-made l = l.steps - l.made
