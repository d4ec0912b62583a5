use Rattle.transport.proofs.Reaching.{driving_tells, serving_tells}

pub returns : Rattle.transport.proofs.laws.what_is_told_is_what_happened.Goals.returns
returns c = record { driven = driving_tells; served = serving_tells }
