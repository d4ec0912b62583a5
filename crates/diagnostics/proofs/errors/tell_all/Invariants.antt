use Rattle.diagnostics.proofs.Common.{drop, errors_found, HaveColumns, located_among, located_in, map, ◌++◌, ◌≡◌}

abbrev pub invariant-loop-one : Rattle.diagnostics.proofs.errors.tell_all.Given.invariant-loop-one
invariant-loop-one l = record {
  columns : HaveColumns l.list.items;
  errors : located_among (map (λ t. t.now) l.texts) (errors_found l.found)
      ≡ located_in l.list.items ++ located_among (map (λ t. t.now) l.texts) (errors_found (drop l.one-index l.found));
}
