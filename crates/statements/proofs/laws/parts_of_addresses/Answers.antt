pub returns : Rattle.statements.proofs.laws.parts_of_addresses.Goals.returns
returns c = Rattle.statements.proofs.Addresses.address_parts
