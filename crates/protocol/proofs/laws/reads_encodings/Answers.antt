pub returns : Rattle.protocol.proofs.laws.reads_encodings.Goals.returns
returns c = Rattle.protocol.proofs.Decoding.reads_encodings
