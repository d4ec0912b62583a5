use Rattle.statements.proofs.Common.{fields, labels_of, length, rest_of, ◌++◌, ◌≡◌}
use Rattle.statements.proofs.reading.take_labels.Given as goal

abbrev pub invariant-labels : goal.invariant-labels
invariant-labels l = record {
  labels : labels_of (fields 58 l.text) ≡ l.labels.items ++ labels_of (fields 58 l.rest);
  rest : rest_of (fields 58 l.text) ≡ rest_of (fields 58 l.rest);
}

abbrev pub decreases-labels : goal.decreases-labels
decreases-labels l = length l.rest
