use Rattle.stepping.proofs.Ticking.{runs_say_where, runs_stop_there, ticks_say_where}

pub returns : Rattle.stepping.proofs.laws.ticks_stop_where_a_run_stops.Goals.returns
returns c = record { says = ticks_say_where; stops = runs_stop_there; runs = runs_say_where }
