use Rattle.range_laws.proofs.Programs.{just_loaded_in_range, programs_move_in_range, requests_stay_in_range, runs_stay_in_range}

pub returns : Rattle.range_laws.proofs.laws.programs_stay_in_range.Goals.returns
returns c =
    record { loaded = just_loaded_in_range; runs = runs_stay_in_range; moves = programs_move_in_range; requests = requests_stay_in_range }
