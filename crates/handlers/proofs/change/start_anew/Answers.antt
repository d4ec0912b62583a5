use Rattle.std.proofs.Common.{ap, ◌∙◌}
use Rattle.debuggee.specs.Programs.{first_run}

pub returns-in-Ok-clause-ok : Rattle.handlers.proofs.change.start_anew.Goals.returns-in-Ok-clause-ok
returns-in-Ok-clause-ok c = c.begin.ensures ∙ ap first_run c.in-Ok.ensures.ok
