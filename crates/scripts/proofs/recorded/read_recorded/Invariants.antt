use Rattle.scripts.proofs.Common.{following, length, recorded, recorded_of, whole_lines, ◌+◌, ◌≡◌, ◌≤◌}
use Rattle.scripts.proofs.recorded.read_recorded.Given as goal

abbrev pub invariant-loop-end : goal.invariant-loop-end
invariant-loop-end l = record {
  left : recorded_of l.text ≡ following l.steps.items (recorded l.number (whole_lines l.rest));
  room : l.number + length l.rest ≤ length l.text + 1;
}

abbrev pub decreases-loop-end : goal.decreases-loop-end
decreases-loop-end l = length l.rest
