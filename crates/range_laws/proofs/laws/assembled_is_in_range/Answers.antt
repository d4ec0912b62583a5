pub returns : Rattle.range_laws.proofs.laws.assembled_is_in_range.Goals.returns
returns c = Rattle.range_laws.proofs.Images.assembled_is_in_range
