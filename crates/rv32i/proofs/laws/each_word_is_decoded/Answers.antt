pub returns : Rattle.rv32i.proofs.laws.each_word_is_decoded.Goals.returns
returns c = Rattle.rv32i.proofs.Moving.the_decoding
