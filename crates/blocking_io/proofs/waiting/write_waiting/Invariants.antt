-- Between two writes nothing was appended.
use Rattle.std.proofs.Common.{◌-◌}
use Rattle.std.specs.Io.KnownBytes.{Keeps}
use Rattle.blocking_io.specs.Retries.{most_retries}
use Rattle.blocking_io.proofs.waiting.write_waiting.Given as goal

abbrev pub invariant-waiting : goal.invariant-waiting
invariant-waiting g l = Keeps (g.S.Write.contents l.initial.stream) (g.S.Write.contents l.stream)

abbrev pub decreases-waiting : goal.decreases-waiting
decreases-waiting g l = most_retries - l.retries
