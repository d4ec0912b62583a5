pub returns : Rattle.scripts.proofs.laws.events_are_read_back.Goals.returns
returns c = Rattle.scripts.proofs.ReadBack.events
