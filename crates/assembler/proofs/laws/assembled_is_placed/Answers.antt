pub returns : Rattle.assembler.proofs.laws.assembled_is_placed.Goals.returns
returns c = Rattle.assembler.proofs.Whole.placed_whole
