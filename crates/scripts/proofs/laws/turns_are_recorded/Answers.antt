pub returns : Rattle.scripts.proofs.laws.turns_are_recorded.Goals.returns
returns c = Rattle.scripts.proofs.Records.turns
