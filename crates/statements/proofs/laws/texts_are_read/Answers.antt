pub returns : Rattle.statements.proofs.laws.texts_are_read.Goals.returns
returns c = Rattle.statements.proofs.Texts.texts_read
