use Rattle.std.proofs.Common.{◌≡◌, ◌+◌, ◌-◌, ◌≤◌, length, take}
use Rattle.prompt.proofs.Parting.{trailing}
use Rattle.prompt.proofs.part.last_start.Given as goal

abbrev pub invariant-loop-start : goal.invariant-loop-start
invariant-loop-start l = record {
  in_range : l.start ≤ length l.text;
  same : trailing l.text ≡ length l.text - l.start + trailing (take l.start l.text);
}

abbrev pub decreases-loop-start : goal.decreases-loop-start
decreases-loop-start l = l.start
