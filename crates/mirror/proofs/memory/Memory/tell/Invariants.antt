use Rattle.mirror.proofs.Common.{at, PlaceIs, upto, ℕ, ◌+◌, ◌≡◌}

-- the bytes so far are told
abbrev pub invariant-loop-byte : Rattle.mirror.proofs.memory.Memory.tell.Given.invariant-loop-byte
invariant-loop-byte l = record {
  told : (place : ℕ) → at l.self-inside.map.entries place ≡ upto l.byte-index l.first l.bytes (at l.initial.self-inside.map.entries) place;
  place : PlaceIs l.place (l.first + l.byte-index);
}
