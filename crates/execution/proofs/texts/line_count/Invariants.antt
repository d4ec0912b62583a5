use Rattle.std.proofs.Common.{◌≡◌, ◌+◌, ◌≤◌, ◌==◌, count_by, drop}

abbrev pub invariant-loop-byte : Rattle.execution.proofs.texts.line_count.Given.invariant-loop-byte
invariant-loop-byte l = (l.count ≤ l.byte-index) × (l.count + count_by (λ byte. byte == 10) (drop l.byte-index l.text) ≡ count_by (λ byte. byte == 10) l.text)
