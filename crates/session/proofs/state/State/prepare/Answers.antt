pub returns : Rattle.session.proofs.state.State.prepare.Goals.returns
returns c =
    Rattle.session.proofs.Drafting.prepared_so c.args.self.now.now c.lent.result c.args.link.terms
    (Rattle.std.specs.Option.option_copied c.args.file) c.args.first.now c.in_ok-answer.answer c.write.result c.lent.ensures
    c.in_ok-answer.ensures c.write.ensures
