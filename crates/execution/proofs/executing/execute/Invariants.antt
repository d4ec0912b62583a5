use Rattle.execution.proofs.Writing.{SoWritten}
use Rattle.execution.proofs.executing.execute.Given as goal

abbrev pub invariant-loop-left : goal.invariant-loop-left
invariant-loop-left g l =
    SoWritten l.fn.limits l.left l.room l.fn.runner l.runner (g.W.Write.contents l.fn.writer) (g.W.Write.contents l.writer)

abbrev pub decreases-loop-left : goal.decreases-loop-left
decreases-loop-left g l = l.left
