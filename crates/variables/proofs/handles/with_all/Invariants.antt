use Rattle.variables.proofs.Common.{drop, with_all, ◌≡◌}

abbrev pub invariant-loop-target : Rattle.variables.proofs.handles.with_all.Given.invariant-loop-target
invariant-loop-target l = record {
  all : with_all l.all.items (drop l.target-index l.targets) ≡ with_all l.known l.targets;
}
