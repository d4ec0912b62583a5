pub returns : Rattle.session_laws.proofs.laws.references_last.Goals.returns
returns c = Rattle.session_laws.proofs.Lasting.references_last
