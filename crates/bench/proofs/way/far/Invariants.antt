use Rattle.std.proofs.Common.{◌≡◌, ◌≤◌, All, length}

abbrev pub invariant-loop-id : Rattle.bench.proofs.way.far.Given.invariant-loop-id
invariant-loop-id l = record {
  count : length l.specs.items ≡ l.id;
  reachable : All (λ spec. 1 ≤ spec.hit) l.specs.items;
}
