use Rattle.diagnostics.proofs.Common.{[], drop, errors_found, first_address, labels_after, labels_of, LiesWithin, place_errors, program_of, Some, ◌++◌, ◌≡◌}

abbrev pub invariant-loop-source : Rattle.diagnostics.proofs.placing.place_all.Given.invariant-loop-source
invariant-loop-source l = record {
  within : LiesWithin l.limit l.reached.address;
  errors : place_errors l.limit [] (Some first_address) (program_of l.program)
      ≡ errors_found l.found.items ++ place_errors l.limit (labels_of l.reached.labels.entries) l.reached.address
      (program_of (drop l.source-index l.program));
  labels : labels_after l.limit [] (Some first_address) (program_of l.program)
      ≡ labels_after l.limit (labels_of l.reached.labels.entries) l.reached.address (program_of (drop l.source-index l.program));
}
