pub returns : Rattle.variables.proofs.laws.ended_are_stale.Goals.returns
returns c = Rattle.variables.proofs.Calls.ended_are_stale
