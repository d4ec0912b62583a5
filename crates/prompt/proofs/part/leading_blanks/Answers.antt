use Rattle.std.proofs.Common.{arith}
use Rattle.prompt.proofs.Parting.{fewer, leaves_room}
use Rattle.prompt.proofs.part.leading_blanks.Goals as goal

pub overflow_sub-result : goal.overflow_sub-result
overflow_sub-result c = grind (arith, fewer c.args.text.now)

pub returns-clause-few : goal.returns-clause-few
returns-clause-few c = grind (arith, leaves_room c.args.text.now)
