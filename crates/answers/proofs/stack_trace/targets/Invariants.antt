use Rattle.answers.proofs.Common.{Frame, map, range_with_len, ◌-◌, ◌≡◌}

abbrev pub invariant-loop-index : Rattle.answers.proofs.stack_trace.targets.Given.invariant-loop-index
invariant-loop-index l = record {
  targets : l.targets.items ≡ map (λ index. Frame index) (range_with_len l.first (l.index - l.first));
}
