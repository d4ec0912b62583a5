use Rattle.std.specs.Prelude.{string_bytes}
use Rattle.execution.proofs.Joining.{lacked, none_made, on_err, spent, ticked}
use Rattle.execution.proofs.slices.run_part.Goals as goal

pub returns-in_err-reserve-clause-err : goal.returns-in_err-reserve-clause-err
returns-in_err-reserve-clause-err c =
    on_err c.from_residual.result
    (none_made c.args.most c.args.runner.now (string_bytes c.args.lines.now) (string_bytes c.reserve.new.self)
    c.requires.some c.reserve.ensures.bytes)

pub returns-in-Spent-clause-ok : goal.returns-in-Spent-clause-ok
returns-in-Spent-clause-ok c =
    spent c.args.most c.args.runner.now c.run-ran.new.self c.run-ran.result (string_bytes c.args.lines.now)
    (string_bytes c.reserve.new.self)
    c.requires.some c.run-ran.ensures.run c.in-Spent.is c.reserve.ensures.bytes

pub returns-in-Ticked-clause-ok : goal.returns-in-Ticked-clause-ok
returns-in-Ticked-clause-ok c =
    ticked c.args.most c.args.runner.now c.run-ran.new.self c.run-ran.result c.in-Ticked.tick
    (string_bytes c.args.lines.now) (string_bytes c.reserve.new.self)
    (string_bytes c.push_line.new.lines) c.slice_to.result.made c.slice_to.result.end
    c.run-ran.ensures.run c.in-Ticked.is c.slice_to.ensures.end c.slice_to.ensures.made c.reserve.ensures.bytes c.push_line.ensures

pub returns-in-NoMemory-clause-err : goal.returns-in-NoMemory-clause-err
returns-in-NoMemory-clause-err c =
    lacked c.args.most c.args.runner.now c.run-ran.new.self c.run-ran.result (string_bytes c.args.lines.now)
    (string_bytes c.reserve.new.self)
    c.run-ran.ensures.run c.in-NoMemory.is c.reserve.ensures.bytes
