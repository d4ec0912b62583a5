-- Between two writes nothing was appended.
use Rattle.std.proofs.Common.{◌-◌}
use Rattle.std.specs.Io.KnownBytes.{Keeps}
use Rattle.blocking_io.specs.Retries.{most_retries}
use Rattle.blocking_io.proofs.writing.write_once.Given as goal

abbrev pub invariant-writing : goal.invariant-writing
invariant-writing g l = Keeps (g.W.Write.contents l.fn.writer) (g.W.Write.contents l.writer)

abbrev pub decreases-writing : goal.decreases-writing
decreases-writing g l = most_retries - l.retries
