pub returns : Rattle.assembler.proofs.laws.placed_is_loadable.Goals.returns
returns c = Rattle.assembler.proofs.Loadable.loadable
