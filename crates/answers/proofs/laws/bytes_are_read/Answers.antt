pub returns : Rattle.answers.proofs.laws.bytes_are_read.Goals.returns
returns c = Rattle.answers.proofs.Looks.bytes_are_read
