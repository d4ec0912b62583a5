pub returns : Rattle.answers.proofs.laws.texts_are_disassemblies.Goals.returns
returns c = Rattle.answers.proofs.Looks.texts
