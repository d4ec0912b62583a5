pub returns : Rattle.statements.proofs.laws.no_offset_is_zero.Goals.returns
returns c = Rattle.statements.proofs.Addresses.no_offset
