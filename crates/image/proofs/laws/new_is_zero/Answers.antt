pub returns : Rattle.image.proofs.laws.new_is_zero.Goals.returns
returns c = Rattle.image.proofs.Maps.zeros_are_there
