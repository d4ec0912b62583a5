pub returns : Rattle.statements.proofs.laws.numbers_have_ranges.Goals.returns
returns c = Rattle.statements.proofs.Places.number_ranges
