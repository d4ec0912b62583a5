use Rattle.transport.proofs.Reaching.{driving_leads, serving_leads}

pub returns : Rattle.transport.proofs.laws.what_is_driven_and_served_is_reached.Goals.returns
returns c = record { driven = driving_leads; served = serving_leads }
