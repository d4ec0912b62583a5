pub returns : Rattle.breakpoints.proofs.laws.reset_counts_anew.Goals.returns
returns c = Rattle.breakpoints.proofs.Counting.stops_so
