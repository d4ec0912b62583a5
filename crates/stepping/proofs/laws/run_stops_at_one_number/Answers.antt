use Rattle.stepping.proofs.Stopping.{counts_anew, moves_end, stop_is_unique}

pub returns : Rattle.stepping.proofs.laws.run_stops_at_one_number.Goals.returns
returns c = record { unique = stop_is_unique; end = moves_end; anew = counts_anew }
