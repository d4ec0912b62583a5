pub returns : Rattle.breakpoints.proofs.laws.stops_from_its_hit.Goals.returns
returns c spec checks last least = Rattle.breakpoints.proofs.Counting.stops_so (Rattle.breakpoints.specs.Stops.fresh spec) checks last least
