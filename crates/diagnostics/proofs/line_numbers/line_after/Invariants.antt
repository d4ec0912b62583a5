use Rattle.std.proofs.Common.{◌≡◌, ◌≤◌, length}

abbrev pub invariant-loop-line : Rattle.diagnostics.proofs.line_numbers.line_after.Given.invariant-loop-line
invariant-loop-line l = record {
  count : l.passed ≡ length l.yielded;
  few : l.passed ≤ l.fn.count;
}
