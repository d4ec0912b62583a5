pub returns : Rattle.scripts.proofs.laws.nothing_is_recorded.Goals.returns
returns c = Rattle.scripts.proofs.Records.nothing
