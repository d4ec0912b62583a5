use Rattle.variables.proofs.Loops.{has_number}

pub unreachable-requires : Rattle.variables.proofs.handles.numbers_from.Goals.unreachable-requires
unreachable-requires c =
    has_number c.args.first c.loop-target.target-index _ c.args.known.now c.args.targets.now c.number_from.result c.loop-target-test.true c.requires.known c.number_from.ensures c.in-None.is
