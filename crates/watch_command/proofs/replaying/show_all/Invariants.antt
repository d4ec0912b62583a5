use Rattle.std.proofs.Common.{◌≡◌}
use Rattle.watch_command.proofs.Showing.{Showing}

-- what the events so far say was written
abbrev pub invariant-loop-event : Rattle.watch_command.proofs.replaying.show_all.Given.invariant-loop-event
invariant-loop-event g l = record {
  shown : Showing l.asked l.events l.fn.session l.fn.stream.unframer.tail
      (g.W.Write.contents l.fn.writer) (g.W.Write.contents l.writer) l.event-index l.number l.session l.stream;
  same : l.knowing.config ≡ l.fn.knowing.config;
}
