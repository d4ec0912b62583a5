use Rattle.scripts.proofs.Common.{following, length, lines, read, script_of, ◌+◌, ◌≡◌, ◌≤◌}
use Rattle.scripts.proofs.script.read_script.Given as goal

abbrev pub invariant-loop-after : goal.invariant-loop-after
invariant-loop-after l = record {
  left : script_of l.text ≡ following l.steps.items (read l.number (lines l.rest));
  room : l.number + length l.rest ≤ length l.text + 1;
}

abbrev pub decreases-loop-after : goal.decreases-loop-after
decreases-loop-after l = length l.rest
