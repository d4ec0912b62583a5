use Rattle.history_laws.proofs.SteppingBack.{steps_go_one_back}
use Rattle.history_laws.proofs.Ticking.{one_earlier}

pub returns : Rattle.history_laws.proofs.laws.steps_back_one.Goals.returns
returns c = record { steps = steps_go_one_back; earlier = one_earlier }
