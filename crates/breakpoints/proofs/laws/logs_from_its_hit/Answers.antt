pub returns : Rattle.breakpoints.proofs.laws.logs_from_its_hit.Goals.returns
returns c = Rattle.breakpoints.proofs.Counting.logs_so
