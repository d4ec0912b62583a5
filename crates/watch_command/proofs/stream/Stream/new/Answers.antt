use Rattle.watch_command.proofs.Spoken.{fresh}

pub returns-clause-ready : Rattle.watch_command.proofs.stream.Stream.new.Goals.returns-clause-ready
returns-clause-ready c = fresh c.new.result.items c.next_unframer.result c.new.ensures.items c.next_unframer.ensures
