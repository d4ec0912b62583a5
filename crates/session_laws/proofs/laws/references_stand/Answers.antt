pub returns : Rattle.session_laws.proofs.laws.references_stand.Goals.returns
returns c = Rattle.session_laws.proofs.Issuing.references_stand
