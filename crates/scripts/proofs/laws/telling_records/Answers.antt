pub returns : Rattle.scripts.proofs.laws.telling_records.Goals.returns
returns c = Rattle.scripts.proofs.Records.telling
