pub returns : Rattle.assembler.proofs.laws.placed_is_unique.Goals.returns
returns c = Rattle.assembler.proofs.Unique.unique
