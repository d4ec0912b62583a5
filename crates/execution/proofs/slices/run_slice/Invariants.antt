use Rattle.std.proofs.Common.{◌-◌}
use Rattle.std.specs.Prelude.{string_bytes}
use Rattle.execution.proofs.Joining.{Keeps}
use Rattle.execution.proofs.slices.run_slice.Given as goal

abbrev pub invariant-loop-made : goal.invariant-loop-made
invariant-loop-made l = Keeps l.most l.made l.fn.runner l.runner (string_bytes l.fn.lines) (string_bytes l.lines)

abbrev pub decreases-loop-made : goal.decreases-loop-made
decreases-loop-made l = l.most - l.made
