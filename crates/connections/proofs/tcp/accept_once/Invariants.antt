use Rattle.std.proofs.Common.{◌-◌, ◌≤◌}
use Rattle.blocking_io.specs.Retries.{most_retries}
use Rattle.connections.proofs.tcp.accept_once.Given as goal

abbrev pub invariant-accepting : goal.invariant-accepting
invariant-accepting g l = l.initial.retries ≤ l.retries

abbrev pub decreases-accepting : goal.decreases-accepting
decreases-accepting g l = most_retries - l.retries
