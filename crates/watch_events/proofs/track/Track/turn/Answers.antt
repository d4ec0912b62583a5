use Rattle.std.proofs.Common.{ap, length}
use Rattle.session.specs.declared.event.Event.TheVariants as event
use Rattle.watch_events.proofs.Tracked.{passes_inside, turns_inside}
use Rattle.watch_events.proofs.track.Track.turn.Goals as goal

pub returns-in-Ok-clause-keeps : goal.returns-in-Ok-clause-keeps
returns-in-Ok-clause-keeps c =
    turns_inside _ _ c.self.view_is c.turn.new.self _ _ c.note.result c.note.new.self _
    (ap length c.waiting-before.ensures) c.in-Ok.ensures.stands c.note.ensures.noted c.note.ensures.same

pub returns-in-Err-clause-keeps : goal.returns-in-Err-clause-keeps
returns-in-Err-clause-keeps c =
    passes_inside _ _ c.self.view_is c.turn.new.self
    (event.Turn _) c.in-Err.error c.passed_over.result c.passed_over.ensures c.in-Err.ensures.stands
