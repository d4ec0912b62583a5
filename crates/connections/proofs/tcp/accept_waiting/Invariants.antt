use Rattle.std.proofs.Common.{◌-◌}
use Rattle.blocking_io.specs.Retries.{most_retries}

abbrev pub decreases-accepting : Rattle.connections.proofs.tcp.accept_waiting.Given.decreases-accepting
decreases-accepting g l = most_retries - l.retries
