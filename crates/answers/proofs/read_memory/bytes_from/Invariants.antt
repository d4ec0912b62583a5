use Rattle.answers.proofs.Common.{bytes_at, ◌-◌, ◌≡◌, ◌≤◌}

abbrev pub invariant-loop-index : Rattle.answers.proofs.read_memory.bytes_from.Given.invariant-loop-index
invariant-loop-index l = record {
  bytes : l.bytes.items ≡ bytes_at l.memory l.address l.index;
  room : l.index ≤ 4294967296 - l.address;
}
