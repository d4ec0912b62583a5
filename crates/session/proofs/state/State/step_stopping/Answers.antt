pub returns-in-Err-clause-stretches : Rattle.session.proofs.state.State.step_stopping.Goals.returns-in-Err-clause-stretches
returns-in-Err-clause-stretches c = λ n m lt. rw c.ends-in-Err.ensures
    (Rattle.session.proofs.Stretching.lacks_stopping n m c.args.self.now c.stop.new.self c.args.why c.args.more lt c.requires
    c.in-Err.ensures.told c.in-Err.ensures.err)
