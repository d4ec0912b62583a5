use Rattle.std.proofs.Common.{◌≡◌, ◌++◌, drop}
use Rattle.answers.specs.StackTrace.{addresses}
use Rattle.snapshots.specs.Snapshots.{frames_from}

abbrev pub invariant-loop-index : Rattle.snapshots.proofs.captured.frames.Given.invariant-loop-index
invariant-loop-index l =
    l.frames.items ++ frames_from l.lines l.handles l.index (drop l.index (addresses l.machine)) ≡ frames_from l.lines l.handles 0
    (addresses l.machine)
