use Rattle.std.proofs.lemmas.Iterator.Consumers.{map_from_collect}
use Rattle.std.proofs.lemmas.Iterator.Splits.{YieldsList-from_lines}
use Rattle.diagnostics.proofs.Located.{few_from}
use Rattle.diagnostics.proofs.line_numbers.lines_of.Goals as goal

pub returns-clause-lines : goal.returns-clause-lines
returns-clause-lines c = map_from_collect _ c.collect.ensures.ran (YieldsList-from_lines c.args.text.now cc)

pub returns-clause-few : goal.returns-clause-few
returns-clause-few c =
    few_from c.collect.result (λ line. line.now) c.args.text.now c.requires
    (map_from_collect _ c.collect.ensures.ran (YieldsList-from_lines c.args.text.now cc))
