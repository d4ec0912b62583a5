use Rattle.watch_command.proofs.Showing.{replays_in}

pub returns : Rattle.watch_command.proofs.replaying.replay_in.Goals.returns
returns g c =
    replays_in c.args.asked c.args.steps.items (g.F.Files.past c.args.files.now)
    (g.F.Files.past c.events_of.new.files) (g.W.Write.contents c.args.writer.now)
    (g.W.Write.contents c.show_all.new.writer) c.args.session.now c.new-stream.result _ c.in_ok-events.events.items c.deref-2.ensures.value c.in_ok-events.ensures
    c.new-stream.ensures.tail c.show_all.result c.show_all.ensures
