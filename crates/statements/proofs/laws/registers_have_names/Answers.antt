pub returns : Rattle.statements.proofs.laws.registers_have_names.Goals.returns
returns c = Rattle.statements.proofs.Addresses.registers_named
