pub returns : Rattle.range_laws.proofs.laws.moves_stay_in_range.Goals.returns
returns c = Rattle.range_laws.proofs.Hart.moves_stay_in_range
