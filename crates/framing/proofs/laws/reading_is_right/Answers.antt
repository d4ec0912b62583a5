pub returns : Rattle.framing.proofs.laws.reading_is_right.Goals.returns
returns c = Rattle.framing.proofs.Framing.reading_is_right
