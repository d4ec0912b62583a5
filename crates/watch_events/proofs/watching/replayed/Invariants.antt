use Rattle.std.proofs.Common.{take}
use Rattle.watch_events.proofs.Replayed.{AllTracked}

-- the events so far were done
abbrev pub invariant-loop-event : Rattle.watch_events.proofs.watching.replayed.Given.invariant-loop-event
invariant-loop-event l = AllTracked l.fn.config l.fn.limits (take l.event-index l.events) l.connection l.count l.track
