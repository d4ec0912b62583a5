use Rattle.breakpoints.proofs.Common.{drop, SoFar, take, ◌-◌, ◌≤◌}

abbrev pub invariant-loop-end : Rattle.breakpoints.proofs.lexing.tokens.Given.invariant-loop-end
invariant-loop-end l = record {
  from : l.start ≤ l.end;
  so_far : SoFar l.text l.tokens.items (take (l.end - l.start) (drop l.start l.text)) (drop l.end l.text);
}
