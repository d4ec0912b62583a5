use Rattle.watch_events.proofs.Replayed.{counts_queued}

pub returns : Rattle.watch_events.proofs.watching.queued.Goals.returns
returns c =
    counts_queued c.args.config c.args.limits c.args.events.now c.args.connection 0 c.in_ok-track.track _ c.in_ok-track.ensures c.queued_in-count.ensures
