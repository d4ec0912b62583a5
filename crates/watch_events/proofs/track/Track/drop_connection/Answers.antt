use Rattle.watch_events.proofs.Tracked.{drops_inside}

pub returns-clause-keeps : Rattle.watch_events.proofs.track.Track.drop_connection.Goals.returns-clause-keeps
returns-clause-keeps c =
    drops_inside _ _ c.self.view_is c.drop_connection.new.self c.drop_connection.result c.drop_connection.ensures.takes_none c.drop_connection.ensures.stands
