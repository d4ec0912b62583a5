pub returns : Rattle.scripts.proofs.laws.frames_are_sent.Goals.returns
returns c = Rattle.scripts.proofs.ReadBack.frames
