use Rattle.std.specs.Prelude.{string_bytes}
use Rattle.execution.proofs.Joining.{breaks_in_slice, ends_in_slice, on_err, slice_keeps, slice_so_far}
use Rattle.execution.proofs.slices.run_slice.Goals as goal

pub returns-in_err-part-clause-err : goal.returns-in_err-part-clause-err
returns-in_err-part-clause-err c =
    on_err c.from_residual.result (breaks_in_slice c.args.most c.loop-made.made c.args.runner.now c.loop-made.runner c.run_part.new.runner
    (string_bytes c.args.lines.now) (string_bytes c.loop-made.lines) (string_bytes c.run_part.new.lines) c.loop-made.invariant.few
    c.loop-made.invariant.so_far c.in_err-part.ensures.err)

pub returns-in-Some-clause-ok : goal.returns-in-Some-clause-ok
returns-in-Some-clause-ok c =
    ends_in_slice c.args.most c.loop-made.made c.in_ok-part.part.made c.loop-made.made c.in-Some.end c.args.runner.now c.loop-made.runner
    c.run_part.new.runner (string_bytes c.args.lines.now) (string_bytes c.loop-made.lines) (string_bytes c.run_part.new.lines)
    c.loop-made.invariant.few c.loop-made.invariant.so_far (rw c.in-Some.is at c.in_ok-part.ensures.ok)

pub loop-made-preserved : goal.loop-made-preserved
loop-made-preserved c =
    slice_keeps c.args.most c.loop-made.made c.in_ok-part.part.made c.args.runner.now c.loop-made.runner
    c.run_part.new.runner (string_bytes c.args.lines.now) (string_bytes c.loop-made.lines) (string_bytes c.run_part.new.lines)
    c.loop-made.invariant (rw c.in-None.is at c.in_ok-part.ensures.ok)

pub returns-then-len-room-clause-ok : goal.returns-then-len-room-clause-ok
returns-then-len-room-clause-ok c =
    slice_so_far c.args.most c.loop-made.made c.in_ok-part.part.made c.args.runner.now c.loop-made.runner
    c.run_part.new.runner (string_bytes c.args.lines.now) (string_bytes c.loop-made.lines) (string_bytes c.run_part.new.lines)
    c.loop-made.invariant (rw c.in-None.is at c.in_ok-part.ensures.ok)
