pub returns : Rattle.breakpoints.proofs.laws.tree_is_unique.Goals.returns
returns c = Rattle.breakpoints.proofs.Deciding.unique
