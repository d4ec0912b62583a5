use Rattle.variables.proofs.Common.{drop, number_from, ◌+◌, ◌≡◌}

abbrev pub invariant-loop-known : Rattle.variables.proofs.handles.number_from.Given.invariant-loop-known
invariant-loop-known l = record {
  found : number_from l.number l.target (drop l.known-index l.targets) ≡ number_from l.first l.target l.targets;
  place : l.number ≡ l.first + l.known-index;
}
