use Rattle.variables.proofs.Common.{length, take, with_all, ◌+◌, ◌≡◌, ◌≤◌}

abbrev pub invariant-loop-i : Rattle.variables.proofs.handles.count_new.Given.invariant-loop-i
invariant-loop-i l = record {
  counted : length l.known + l.count ≡ length (with_all l.known (take l.i l.targets));
  few : l.count ≤ l.i;
}
