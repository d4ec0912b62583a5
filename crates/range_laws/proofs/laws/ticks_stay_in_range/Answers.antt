pub returns : Rattle.range_laws.proofs.laws.ticks_stay_in_range.Goals.returns
returns c = Rattle.range_laws.proofs.Debugging.ticks_stay_in_range
