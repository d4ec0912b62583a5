use Rattle.diagnostics.proofs.Common.{drop, errors_found, map, reading_errors, ◌++◌, ◌+◌, ◌≡◌}

abbrev pub invariant-loop-text : Rattle.diagnostics.proofs.reading.unreadable.Given.invariant-loop-text
invariant-loop-text l = record {
  count : l.number ≡ l.text-index;
  errors : reading_errors 1 (map (λ t. t.now) l.texts)
      ≡ errors_found l.found.items ++ reading_errors (l.number + 1) (map (λ t. t.now) (drop l.text-index l.texts));
}
