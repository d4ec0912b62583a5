use Rattle.session.specs.declared.event.Event.TheVariants as event
use Rattle.watch_events.proofs.Tracked.{passes_inside, receives_inside}
use Rattle.watch_events.proofs.track.Track.recv.Goals as goal

pub returns-in-Ok-clause-keeps : goal.returns-in-Ok-clause-keeps
returns-in-Ok-clause-keeps c =
    receives_inside _ _ c.self.view_is c.recv.new.self c.args.piece.now c.accept.result c.accept.new.self c.in-Ok.ensures.stands c.accept.ensures.accepts

pub returns-in-Err-clause-keeps : goal.returns-in-Err-clause-keeps
returns-in-Err-clause-keeps c =
    passes_inside _ _ c.self.view_is c.recv.new.self
    (event.Recv c.args.piece.now) c.in-Err.error c.passed_over.result c.passed_over.ensures c.in-Err.ensures.stands
