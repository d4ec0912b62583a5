use Rattle.framing.proofs.Pasts.{nothing_stands}
use Rattle.framing.proofs.unframer.Unframer.new.Goals as goal

pub returns-clause-stream : goal.returns-clause-stream
returns-clause-stream c = rw c.new.ensures (nothing_stands c.args.limit)

pub returns-clause-before : goal.returns-clause-before
returns-clause-before c = rw c.new.ensures (record { reads = (nothing_stands c.args.limit).reads })
