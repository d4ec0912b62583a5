use Rattle.watch_command.proofs.Spoken.{plain_told}

pub returns-clause-lines : Rattle.watch_command.proofs.knowing.Knowing.add_told.Goals.returns-clause-lines
returns-clause-lines c =
    plain_told c.args.asked c.args.number c.args.bytes.now c.args.text.now.items c.add_bodies.new.text.items c.in_ok-unframer.unframer.waiting
    c.in_ok-unframer.ensures c.in_ok-add_bodies.ensures.lines
