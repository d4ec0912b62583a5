pub returns : Rattle.statements.proofs.laws.names_are_needed.Goals.returns
returns c = Rattle.statements.proofs.Refused.no_names
