pub returns : Rattle.diagnostics.proofs.laws.each_is_told.Goals.returns
returns c text = Rattle.diagnostics.proofs.Each.each text
