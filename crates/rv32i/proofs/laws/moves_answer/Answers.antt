pub returns : Rattle.rv32i.proofs.laws.moves_answer.Goals.returns
returns c = Rattle.rv32i.proofs.Moving.moves_answer
