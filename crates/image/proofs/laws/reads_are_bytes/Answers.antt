pub returns : Rattle.image.proofs.laws.reads_are_bytes.Goals.returns
returns c = Rattle.image.proofs.Maps.reads_bytes
