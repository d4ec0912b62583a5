use Rattle.std.proofs.Common.{◌≡◌, ◌++◌, drop, map}
use Rattle.snapshots.specs.Shown.{info_of}

abbrev pub invariant-loop-breakpoint : Rattle.snapshots.proofs.captured.infos.Given.invariant-loop-breakpoint
invariant-loop-breakpoint l = l.list.items ++ map info_of (drop l.breakpoint-index l.breaks) ≡ map info_of l.breaks
