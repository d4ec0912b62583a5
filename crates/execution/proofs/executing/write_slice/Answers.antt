use Rattle.std.proofs.Common.{rules}
use Rattle.std.specs.Prelude.{string_bytes}
use Rattle.execution.proofs.Writing.{all_written, unwritten}
use Rattle.execution.proofs.executing.write_slice.Goals as goal

pub returns-then-is_err-clause-err : goal.returns-then-is_err-clause-err
returns-then-is_err-clause-err g c =
    unwritten c.args.most c.args.runner.now c.run_slice-answer.new.runner c.run_slice-answer.result
    (string_bytes c.new-lines.result) (string_bytes c.run_slice-answer.new.lines) (g.W.Write.contents c.args.writer.now)
    (g.W.Write.contents c.write_whole.new.writer) c.new-lines.ensures.bytes c.run_slice-answer.ensures.ok c.run_slice-answer.ensures.err
    (search rules)

pub returns-in-Ok-clause-ok : goal.returns-in-Ok-clause-ok
returns-in-Ok-clause-ok g c =
    all_written c.args.most c.args.room c.in-Ok.slice.made c.in-Ok.slice.end c.len-in-Ok.result c.args.runner.now
    c.run_slice-answer.new.runner (string_bytes c.new-lines.result) (string_bytes c.run_slice-answer.new.lines)
    (g.W.Write.contents c.args.writer.now) (g.W.Write.contents c.write_whole.new.writer) c.new-lines.ensures.bytes c.in-Ok.ensures.ok
    (search rules) (search rules) (search rules)
