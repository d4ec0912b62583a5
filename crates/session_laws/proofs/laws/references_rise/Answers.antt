pub returns : Rattle.session_laws.proofs.laws.references_rise.Goals.returns
returns c = Rattle.session_laws.proofs.Issuing.references_rise
