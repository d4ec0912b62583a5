use Rattle.std.proofs.Common.{◌∙◌}
use Rattle.message_parts.specs.declared.variables.Variable.{Variable}
use Rattle.answers.proofs.Ranges.{cut}

pub returns : Rattle.answers.proofs.variables_.part.Goals.returns
returns c =
    c.cut.ensures ∙ cut {A = Variable} c.args.start c.args.count c.args.list.items c.len.result c.len-2.result c.first_in-first.result c.end_in-end.result (c.len.ensures ∙ c.args.list.ok.0) (c.len-2.ensures ∙ c.args.list.ok.0) c.first_in-first.ensures.first c.end_in-end.ensures.end
