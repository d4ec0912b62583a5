use Rattle.session.specs.declared.event.Event.TheVariants as event
use Rattle.watch_events.proofs.Tracked.{connects_inside, refused_inside}
use Rattle.watch_events.proofs.track.Track.connect.Goals as goal

pub returns-in-Ok-clause-keeps : goal.returns-in-Ok-clause-keeps
returns-in-Ok-clause-keeps c = connects_inside _ _ c.self.view_is c.connect.new.self c.in-Ok.number c.in-Ok.ensures.stands

pub returns-in_default-clause-keeps : goal.returns-in_default-clause-keeps
returns-in_default-clause-keeps c =
    refused_inside _ _ c.self.view_is c.connect.new.self event.Connect c.in_default.field-0 c.in_default.ensures.takes_none c.in_default.ensures.stands
