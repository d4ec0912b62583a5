pub returns : Rattle.rv32i.proofs.laws.each_machine_moves.Goals.returns
returns c = Rattle.rv32i.proofs.Moving.the_move
