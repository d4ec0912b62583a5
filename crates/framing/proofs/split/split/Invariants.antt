use Rattle.std.proofs.Common.{length}
use Rattle.framing.proofs.Passing.{Reached}
use Rattle.framing.proofs.split.split.Given as goal

abbrev pub invariant-loop-after : goal.invariant-loop-after
invariant-loop-after l = Reached l.limit l.bytes l.start l.rest

abbrev pub decreases-loop-after : goal.decreases-loop-after
decreases-loop-after l = length l.rest
