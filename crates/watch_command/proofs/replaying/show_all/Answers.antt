use Rattle.std.proofs.Common.{refl, ◌∙◌}
use Rattle.watch_command.proofs.Showing.{all_shown, cut_off, next_shown, not_yet}
use Rattle.watch_command.proofs.replaying.show_all.Goals as goal

pub loop-event-init : goal.loop-event-init
loop-event-init g c = record {
  shown =
      not_yet c.args.asked c.args.events.now c.args.session.now (g.W.Write.contents c.args.writer.now) c.args.stream.now c.requires.ready;
  same = refl;
}

pub loop-event-preserved : goal.loop-event-preserved
loop-event-preserved g c = record {
  shown =
      next_shown c.args.asked c.args.events.now c.args.session.now c.args.stream.now.unframer.tail
      (g.W.Write.contents c.args.writer.now) (g.W.Write.contents c.loop-event.writer)
      (g.W.Write.contents c.show.new.writer) c.loop-event.event-index c.loop-event.number c.loop-event.session c.show.new.session c.loop-event.stream
      c.show.new.stream c.event-item.result c.loop-event-test.true c.event-item.is c.loop-event.invariant.shown c.in-Ok.ensures.shows;
  same = c.show.ensures.same ∙ c.loop-event.invariant.same;
}

pub returns-in-Err : goal.returns-in-Err
returns-in-Err g c =
    cut_off c.args.asked c.args.events.now c.args.session.now c.args.stream.now.unframer.tail
    (g.W.Write.contents c.args.writer.now) (g.W.Write.contents c.loop-event.writer)
    (g.W.Write.contents c.show.new.writer) c.loop-event.event-index c.loop-event.number c.loop-event.session c.show.new.session c.loop-event.stream
    c.show.new.stream c.event-item.result c.loop-event-test.true c.event-item.is c.loop-event.invariant.shown c.in-Err.why c.in-Err.ensures.shows

pub returns : goal.returns
returns g c =
    all_shown c.args.asked c.args.events.now c.args.session.now c.args.stream.now.unframer.tail
    (g.W.Write.contents c.args.writer.now)
    (g.W.Write.contents c.loop-event.writer) c.loop-event.event-index c.loop-event.number c.loop-event.session
    c.loop-event.stream c.loop-event-test.false c.loop-event.invariant.shown
