pub returns : Rattle.session_laws.proofs.laws.runs_are_told.Goals.returns
returns c = Rattle.session_laws.proofs.Proper.runs_are_told
