-- Between two reads the buffer keeps its length, and nothing was consumed.
use Rattle.std.proofs.Common.{◌≡◌, ◌-◌, length}
use Rattle.std.specs.Io.KnownBytes.{Keeps}
use Rattle.blocking_io.specs.Retries.{most_retries}
use Rattle.blocking_io.proofs.waiting.read_waiting.Given as goal

abbrev pub invariant-waiting : goal.invariant-waiting
invariant-waiting g l = (length l.buf ≡ length l.initial.buf)
    × Keeps (g.S.Read.remaining l.initial.stream) (g.S.Read.remaining l.stream)

abbrev pub decreases-waiting : goal.decreases-waiting
decreases-waiting g l = most_retries - l.retries
