use Rattle.history_laws.proofs.Counted.{are_given_up, ticks_are_counted}
use Rattle.history_laws.proofs.Events.{events_are_counted}

pub returns : Rattle.history_laws.proofs.laws.moves_are_counted.Goals.returns
returns c = record { ticks = ticks_are_counted; changes = are_given_up; events = events_are_counted }
