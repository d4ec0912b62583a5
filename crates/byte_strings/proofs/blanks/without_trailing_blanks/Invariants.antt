use Rattle.std.proofs.Common.{◌≡◌, ◌≤◌, length, take}
use Rattle.byte_strings.specs.Blanks.{without_trailing_blanks}
use Rattle.byte_strings.proofs.blanks.without_trailing_blanks.Given as goal

abbrev pub invariant-loop-end : goal.invariant-loop-end
invariant-loop-end l = record {
  in_range : l.end ≤ length l.text;
  same : without_trailing_blanks (take l.end l.text) ≡ without_trailing_blanks l.text;
}

abbrev pub decreases-loop-end : goal.decreases-loop-end
decreases-loop-end l = l.end
