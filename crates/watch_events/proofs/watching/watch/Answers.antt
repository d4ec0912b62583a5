use Rattle.watch_events.proofs.Replayed.{shows_watched}

pub returns : Rattle.watch_events.proofs.watching.watch.Goals.returns
returns c =
    shows_watched c.args.config c.args.limits c.requires c.args.events.now c.args.connection c.args.count c.in_ok-track.track _ c.in_ok-track.ensures c.shown.ensures
