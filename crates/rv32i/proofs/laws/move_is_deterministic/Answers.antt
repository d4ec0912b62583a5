pub returns : Rattle.rv32i.proofs.laws.move_is_deterministic.Goals.returns
returns c = Rattle.rv32i.proofs.OneMove.one_move
