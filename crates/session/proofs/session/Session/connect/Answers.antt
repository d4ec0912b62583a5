pub returns-clause-stands : Rattle.session.proofs.session.Session.connect.Goals.returns-clause-stands
returns-clause-stands c =
    Rattle.session.proofs.Happening.happens_to c.self.inside.state c.args.self.now _ _ _ c.self.view_is c.connect.ensures.kept
