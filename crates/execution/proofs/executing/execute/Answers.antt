use Rattle.execution.proofs.Writing.{at_most, ended, given_up, in_slice, more_written}
use Rattle.execution.proofs.executing.execute.Goals as goal

pub returns-in-Err-clause-err : goal.returns-in-Err-clause-err
returns-in-Err-clause-err g c =
    given_up c.in-Err.fault c.args.limits c.loop-left.left c.loop-left.room _ c.args.runner.now c.loop-left.runner c.write_slice.new.runner
    (g.W.Write.contents c.args.writer.now) (g.W.Write.contents c.loop-left.writer) (g.W.Write.contents c.write_slice.new.writer)
    (at_most c.loop-left.left 100000 _ c.min-most.ensures) (in_slice c.loop-left.left 100000 _ c.min-most.ensures) c.loop-left.invariant
    c.in-Err.ensures.err

pub returns-in-Some-clause-ok : goal.returns-in-Some-clause-ok
returns-in-Some-clause-ok g c =
    ended c.args.limits c.loop-left.left c.loop-left.room _ c.in-Ok.part c.in-Some.end c.args.runner.now c.loop-left.runner
    c.write_slice.new.runner
    (g.W.Write.contents c.args.writer.now) (g.W.Write.contents c.loop-left.writer) (g.W.Write.contents c.write_slice.new.writer)
    (at_most c.loop-left.left 100000 _ c.min-most.ensures) c.loop-left.invariant c.in-Some.is c.in-Ok.ensures.ok

pub loop-left-preserved : goal.loop-left-preserved
loop-left-preserved g c =
    rw c.from-left.ensures (more_written c.args.limits c.loop-left.left c.loop-left.room _ c.in-Ok.part c.args.runner.now c.loop-left.runner
    c.write_slice.new.runner
    (g.W.Write.contents c.args.writer.now) (g.W.Write.contents c.loop-left.writer) (g.W.Write.contents c.write_slice.new.writer)
    (at_most c.loop-left.left 100000 _ c.min-most.ensures) c.loop-left.invariant c.in-None.is c.in-Ok.ensures.ok)
