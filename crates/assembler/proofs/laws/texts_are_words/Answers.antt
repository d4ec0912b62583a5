pub returns : Rattle.assembler.proofs.laws.texts_are_words.Goals.returns
returns c = Rattle.assembler.proofs.Texts.words
