pub returns : Rattle.framing.proofs.laws.frames_are_unique.Goals.returns
returns c = Rattle.framing.proofs.Framing.frames_are_unique
