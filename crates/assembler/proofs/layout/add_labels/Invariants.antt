use Rattle.assembler.proofs.Common.{defines_twice, drop, labels_of, map, ◌++◌, ◌≡◌}

abbrev pub invariant-loop-name : Rattle.assembler.proofs.layout.add_labels.Given.invariant-loop-name
invariant-loop-name l = record {
  twice : defines_twice l.address (labels_of l.initial.labels.entries) l.names ≡ defines_twice l.address (labels_of l.labels.entries) (drop l.name-index l.names);
  labels : labels_of l.initial.labels.entries ++ map (λ name. (name, l.address)) l.names ≡ labels_of l.labels.entries ++ map (λ name. (name, l.address)) (drop l.name-index l.names);
}
