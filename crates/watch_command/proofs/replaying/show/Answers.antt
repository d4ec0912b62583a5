use Rattle.watch_command.proofs.Showing.{shows, shows_nothing}
use Rattle.watch_command.specs.declared.asked.Unwritten.TheVariants as unwritten
use Rattle.watch_command.proofs.replaying.show.Goals as goal

pub returns-in-Err-clause-shows : goal.returns-in-Err-clause-shows
returns-in-Err-clause-shows g c =
    shows_nothing c.args.asked c.args.number c.args.event.now c.args.session.now c.said_by.new.session c.args.stream.now c.said_by.new.stream
    (g.W.Write.contents c.args.writer.now) unwritten.NoMemory

pub returns-clause-shows : goal.returns-clause-shows
returns-clause-shows g c =
    shows c.args.asked c.args.number c.args.event.now c.args.session.now c.said_by.new.session c.args.stream.now c.said_by.new.stream
    (g.W.Write.contents c.args.writer.now)
    (g.W.Write.contents c.write_within.new.writer) c.in-Ok.lines.items c.in-Ok.ensures.does c.deref.result.now c.deref.ensures.value c.write_within.result
    c.write_within.ensures
