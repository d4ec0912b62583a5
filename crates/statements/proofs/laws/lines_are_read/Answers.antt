pub returns : Rattle.statements.proofs.laws.lines_are_read.Goals.returns
returns c = Rattle.statements.proofs.Dividing.lines_read
