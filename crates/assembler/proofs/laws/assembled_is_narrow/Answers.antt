pub returns : Rattle.assembler.proofs.laws.assembled_is_narrow.Goals.returns
returns c = Rattle.assembler.proofs.Narrow.assembled_is_narrow
