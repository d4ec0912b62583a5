pub returns : Rattle.prompt.proofs.laws.nothing_is_lost.Goals.returns
returns c = Rattle.prompt.proofs.Whole.nothing_is_lost
