use Rattle.range_laws.proofs.Debugging.{harts_stay_in_range, writes_stay_in_range}

pub returns : Rattle.range_laws.proofs.laws.writes_stay_in_range.Goals.returns
returns c = record { memory = writes_stay_in_range; hart = harts_stay_in_range }
