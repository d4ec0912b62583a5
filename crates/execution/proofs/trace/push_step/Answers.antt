use Rattle.std.proofs.Common.{string_bytes}
use Rattle.execution.proofs.Told.{on_ok, step_added}

pub returns-clause-step : Rattle.execution.proofs.trace.push_step.Goals.returns-clause-step
returns-clause-step c =
    on_ok c.push_line.result
    (step_added c.args.runner.now c.tick.new.self c.in_ok-tick.field-0 c.word_here-word.result c.hart.result.now c.hart-2.result.now
    (string_bytes c.args.told.now) (string_bytes c.push_line.new.told) c.in_ok-tick.ensures.tick c.word_here-word.ensures c.hart.ensures
    c.hart-2.ensures) c.push_line.ensures
