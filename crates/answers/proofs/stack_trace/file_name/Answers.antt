use Rattle.answers.proofs.FileNames.{cut, uncut}
use Rattle.answers.proofs.stack_trace.file_name.Goals as goal

pub returns-in-None : goal.returns-in-None
returns-in-None c = uncut c.args.path.now c.in-None.ensures.cases

pub returns-in-Some : goal.returns-in-Some
returns-in-Some c = cut c.args.path.now c.in-Some.field-0-0.now c.in-Some.name.now c.in-Some.ensures.cases
