pub returns : Rattle.assembler.proofs.laws.placed_is_assembled.Goals.returns
returns c = Rattle.assembler.proofs.Made.made
