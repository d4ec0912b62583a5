pub returns-in-Stops-clause-stretches : Rattle.session.proofs.state.State.step_advancing.Goals.returns-in-Stops-clause-stretches
returns-in-Stops-clause-stretches c = λ m.
    Rattle.session.proofs.Advancing.moves_then c.args.left m _ c.in-Stops.moved c.in-Stops.tick c.args.self.now c.advance-most.new.self
    c.meet-ending.new.self _ c.meet-ending.result c.advance-most.ensures c.in-Stops.is c.meet-ending.ensures.stretches
    c.meet-ending.ensures.some
