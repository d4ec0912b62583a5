use Rattle.std.proofs.Common.{[], drop, length, ◌-◌, ◌≡◌}
use Rattle.breakpoints.specs.Private.Flat.{outcome, stack_in}
use Rattle.breakpoints.proofs.running.run.Given as goal

abbrev pub invariant-loop-operation : goal.invariant-loop-operation
invariant-loop-operation l =
    outcome l.hart l.memory [] 0 l.operations ≡ outcome l.hart l.memory (stack_in l.words l.depth) 0 (drop l.at l.operations)

abbrev pub decreases-loop-operation : goal.decreases-loop-operation
decreases-loop-operation l = length l.operations - l.at
