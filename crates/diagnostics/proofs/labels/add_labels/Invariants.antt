use Rattle.diagnostics.proofs.Common.{defines_twice, drop, labels_of, with_labels, ◌||◌, ◌≡◌}

abbrev pub invariant-loop-name : Rattle.diagnostics.proofs.labels.add_labels.Given.invariant-loop-name
invariant-loop-name l = record {
  again : defines_twice l.address (labels_of l.initial.labels.entries) l.names
      ≡ (l.again || defines_twice l.address (labels_of l.labels.entries) (drop l.name-index l.names));
  labels : with_labels (labels_of l.initial.labels.entries) l.address l.names
      ≡ with_labels (labels_of l.labels.entries) l.address (drop l.name-index l.names);
}
