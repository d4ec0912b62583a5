use Rattle.answers.proofs.Common.{drop, first_address, length, ◌-◌, ◌≤◌}

abbrev pub invariant-loop-index : Rattle.answers.proofs.write_memory.fitting.Given.invariant-loop-index
invariant-loop-index l = record {
  there : l.index ≤ length (drop (l.address - first_address) l.memory);
  room : l.index ≤ 4294967296 - l.address;
}
