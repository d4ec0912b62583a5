use Rattle.std.proofs.Common.{ap, sym, ◌∙◌}
use Rattle.breakpoints.specs.Private.Flat.{number_of}
use Rattle.breakpoints.proofs.Flattened.{joined_in_one}

pub returns : Rattle.breakpoints.proofs.operation.join_one.Goals.returns
returns c =
    let all = c.args.operations.now in
    joined_in_one c.args.operator all.items c.args.right_side c.in-Some.number c.index.result.now (sym all.ok.0 ∙ c.requires)
    (ap number_of (sym c.index.ensures) ∙ sym c.number_of.ensures ∙ c.in-Some.is)
