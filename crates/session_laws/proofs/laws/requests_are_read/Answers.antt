pub returns : Rattle.session_laws.proofs.laws.requests_are_read.Goals.returns
returns c = Rattle.session_laws.proofs.Cuts.requests_are_read
