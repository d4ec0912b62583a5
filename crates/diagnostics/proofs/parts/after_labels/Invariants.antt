use Rattle.std.proofs.Common.{◌≡◌, length}
use Rattle.diagnostics.specs.Parts.{after_labels}
use Rattle.diagnostics.proofs.parts.after_labels.Given as goal

abbrev pub invariant-labels : goal.invariant-labels
invariant-labels l = after_labels l.text ≡ after_labels l.rest

abbrev pub decreases-labels : goal.decreases-labels
decreases-labels l = length l.rest
