use Rattle.watch_command.proofs.Spoken.{does_from}

pub returns-clause-does : Rattle.watch_command.proofs.saying.said_by.Goals.returns-clause-does
returns-clause-does c =
    does_from c.args.asked c.args.number c.args.event.now c.args.session.now c.add_said.new.session c.args.stream.now c.add_said.new.stream
    c.new-text.result.items c.add_said.new.text.items c.new-text.ensures.items c.in_ok-add_said.ensures.does
