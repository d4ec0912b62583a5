pub returns : Rattle.scripts.proofs.laws.joined_are_the_same.Goals.returns
returns c = Rattle.scripts.proofs.Joins.joined_same
