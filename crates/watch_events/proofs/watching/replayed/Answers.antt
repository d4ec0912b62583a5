use Rattle.watch_events.proofs.Replayed.{next_taken}

pub loop-event-preserved : Rattle.watch_events.proofs.watching.replayed.Goals.loop-event-preserved
loop-event-preserved c =
    next_taken c.args.config c.args.limits c.requires c.args.events.now c.loop-event.event-index c.event-item.result c.args.connection c.args.count c.loop-event.track c.happen.new.self c.in-Ok-happen.ensures.keeps c.happen.ensures.same c.loop-event-test.true c.event-item.is c.loop-event.invariant
