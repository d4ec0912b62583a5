pub returns-clause-keeps : Rattle.watch_events.proofs.track.Track.hold.Goals.returns-clause-keeps
returns-clause-keeps c = Rattle.watch_events.proofs.Tracked.holds_inside _ _ c.self.view_is c.hold.new.self c.hold.ensures.stands
