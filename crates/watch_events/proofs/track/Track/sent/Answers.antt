use Rattle.watch_events.proofs.Tracked.{sends_inside}

pub returns-clause-keeps : Rattle.watch_events.proofs.track.Track.sent.Goals.returns-clause-keeps
returns-clause-keeps c =
    sends_inside _ _ c.self.view_is c.sent.new.self c.args.count c.sent.result c.sent.ensures.takes_none c.sent.ensures.stands
