pub returns : Rattle.rv32i.proofs.laws.encoding_is_unique.Goals.returns
returns c = Rattle.rv32i.proofs.Unique.one_word
