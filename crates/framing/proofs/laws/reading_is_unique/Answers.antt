pub returns : Rattle.framing.proofs.laws.reading_is_unique.Goals.returns
returns c = Rattle.framing.proofs.Framing.reading_is_unique
