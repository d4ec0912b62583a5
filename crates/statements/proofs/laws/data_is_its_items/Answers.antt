pub returns : Rattle.statements.proofs.laws.data_is_its_items.Goals.returns
returns c = Rattle.statements.proofs.DataLines.data_items
