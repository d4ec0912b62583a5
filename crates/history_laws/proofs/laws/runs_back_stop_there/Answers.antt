use Rattle.history_laws.proofs.Newest.{runs_back_to_the_newest}
use Rattle.history_laws.proofs.RunningBack.{runs_back_stop_there}

pub returns : Rattle.history_laws.proofs.laws.runs_back_stop_there.Goals.returns
returns c = record { slices = runs_back_stop_there; place = runs_back_to_the_newest }
