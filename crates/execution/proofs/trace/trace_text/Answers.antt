use Rattle.std.proofs.Common.{string_bytes}
use Rattle.std.proofs.lemmas.Result.{IfOk-weaker}
use Rattle.execution.proofs.Told.{traced}

pub returns : Rattle.execution.proofs.trace.trace_text.Goals.returns
returns c =
    IfOk-weaker c.steps_text.result _ _ (λ told t. traced c.args.count c.steps_of-steps.result c.args.runner.now c.go_back.new.runner
    c.begin.new.self c.steps_text.new.runner (string_bytes told) c.steps_of-steps.ensures c.in_ok-go_back.ensures.back c.begin.ensures t)
    c.steps_text.ensures
