pub returns : Rattle.rv32i.proofs.laws.word_is_computed.Goals.returns
returns c = Rattle.rv32i.proofs.Computed.computed
