pub returns : Rattle.rv32i.proofs.laws.exit_codes_are_words.Goals.returns
returns c = Rattle.rv32i.proofs.Codes.exit_codes_are_words
