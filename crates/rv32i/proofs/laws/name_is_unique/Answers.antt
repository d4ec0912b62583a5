pub returns : Rattle.rv32i.proofs.laws.name_is_unique.Goals.returns
returns c = Rattle.rv32i.proofs.Candidates.one_register
