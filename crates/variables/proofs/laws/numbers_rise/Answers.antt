pub returns : Rattle.variables.proofs.laws.numbers_rise.Goals.returns
returns c = Rattle.variables.proofs.Calls.numbers_rise
