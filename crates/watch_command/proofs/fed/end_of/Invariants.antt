use Rattle.watch_command.proofs.Common.{drop, end_of, ◌≡◌}
use Rattle.watch_command.proofs.Leaving.{found_after}

-- none ended before
abbrev pub invariant-loop-index : Rattle.watch_command.proofs.fed.end_of.Given.invariant-loop-index
invariant-loop-index l = found_after l.index (end_of (drop l.index l.bytes)) ≡ end_of l.bytes
