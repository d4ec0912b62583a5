pub returns : Rattle.session.proofs.session.Session.hold.Goals.returns
returns c = record {
  stands = Rattle.session.proofs.Happening.happens_to c.self.inside.state c.args.self.now _ _ _ c.self.view_is c.hold.ensures;
}
