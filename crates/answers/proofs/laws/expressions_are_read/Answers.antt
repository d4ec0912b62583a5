pub returns : Rattle.answers.proofs.laws.expressions_are_read.Goals.returns
returns c = Rattle.answers.proofs.Reading.expressions_are_read
