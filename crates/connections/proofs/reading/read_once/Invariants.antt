-- Between two reads the buffer keeps its length, nothing was consumed, and the count grows.
use Rattle.std.proofs.Common.{◌≡◌, ◌-◌, ◌≤◌, length}
use Rattle.std.specs.Io.KnownBytes.{Keeps}
use Rattle.blocking_io.specs.Retries.{most_retries}
use Rattle.connections.proofs.reading.read_once.Given as goal

abbrev pub invariant-reading : goal.invariant-reading
invariant-reading g l = (length l.room ≡ length l.initial.room)
    × Keeps (g.R.Read.remaining l.initial.reader) (g.R.Read.remaining l.reader)
    × (l.initial.retries ≤ l.retries)

abbrev pub decreases-reading : goal.decreases-reading
decreases-reading g l = most_retries - l.retries
