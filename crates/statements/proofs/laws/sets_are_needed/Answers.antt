pub returns : Rattle.statements.proofs.laws.sets_are_needed.Goals.returns
returns c = Rattle.statements.proofs.Refused.no_sets
