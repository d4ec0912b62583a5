pub returns : Rattle.scripts.proofs.laws.recordings_are_read.Goals.returns
returns c = Rattle.scripts.proofs.JoinedReadBack.reading
