use Rattle.stepping.proofs.Reversing.{runs_back_turn, back_ticks_say_where}

pub returns : Rattle.stepping.proofs.laws.ticks_stop_where_a_run_back_stops.Goals.returns
returns c = record { says = back_ticks_say_where; turns = runs_back_turn }
