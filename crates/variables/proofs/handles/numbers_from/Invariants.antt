use Rattle.variables.proofs.Common.{map, number_from, Some, take, ◌≡◌}

abbrev pub invariant-loop-target : Rattle.variables.proofs.handles.numbers_from.Given.invariant-loop-target
invariant-loop-target l = record {
  numbers : map Some l.numbers.items ≡ map (λ target. number_from l.first target l.known) (take l.target-index l.targets);
}
