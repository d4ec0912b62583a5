use Rattle.std.proofs.Common.{ap}
use Rattle.rvdap.proofs.debug.lines.take_some.Goals as goal
use Rattle.rvdap.proofs.Lines.{part_read}

pub returns : goal.returns
returns g c = part_read (g.R.Read.remaining c.args.reader.now) (g.R.Read.remaining c.take.result.inner.now) c.take.result.limit
    c.clear.new.self.items c.read_until.new.buf.items (ap (λ r. g.R.Read.remaining r.now) c.take.ensures.inner) c.take.ensures.limit
    c.clear.ensures.items c.in_ok-read_until.ensures.bytes
