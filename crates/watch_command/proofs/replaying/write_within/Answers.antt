use Rattle.watch_command.proofs.Common.{HasPart, sym, ◌∙◌}
use Rattle.watch_command.proofs.Showing.{part_written, was_asked}

pub returns-in-Err : Rattle.watch_command.proofs.replaying.write_within.Goals.returns-in-Err
returns-in-Err g c =
    was_asked
    (HasPart (g.W.Write.contents c.args.writer.now)
    (g.W.Write.contents c.write_whole.new.writer)) c.args.asked c.args.number c.args.lines.now
    (sym c.is_asked.ensures ∙ c.if-not-is_asked.false)
    (part_written (g.W.Write.contents c.args.writer.now)
    (g.W.Write.contents c.write_whole.new.writer) c.args.lines.now c.in-Err.ensures.err)
