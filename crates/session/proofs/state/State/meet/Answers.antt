pub returns-in-Err-clause-stretches : Rattle.session.proofs.state.State.meet.Goals.returns-in-Err-clause-stretches
returns-in-Err-clause-stretches c = λ n m lt.
    Rattle.session.proofs.Stretching.lacks_meeting n m c.args.self.now c.conclude.new.self c.args.tick lt c.requires
    c.in-Err.ensures.told c.in-Err.ensures.err
