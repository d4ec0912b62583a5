use Rattle.diagnostics.proofs.Common.{content_steps, drop, errors_found, first_address, labels_of, LiesWithin, program_of, Some, ◌++◌, ◌≡◌}

abbrev pub invariant-loop-source : Rattle.diagnostics.proofs.targets.check_targets.Given.invariant-loop-source
invariant-loop-source l = record {
  within : LiesWithin l.limit l.address;
  errors : content_steps l.limit (labels_of l.labels.entries) (Some first_address) (program_of l.program)
      ≡ errors_found l.found.items ++ content_steps l.limit (labels_of l.labels.entries) l.address
      (program_of (drop l.source-index l.program));
}
