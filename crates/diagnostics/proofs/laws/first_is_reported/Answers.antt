pub returns : Rattle.diagnostics.proofs.laws.first_is_reported.Goals.returns
returns c = Rattle.diagnostics.proofs.Reported.reported
