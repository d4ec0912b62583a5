use Rattle.std.proofs.Common.{◌≡◌, ◌++◌, replicate}

abbrev pub invariant-loop-index : Rattle.assembler.proofs.contents.put_zeros.Given.invariant-loop-index
invariant-loop-index l = l.bytes.items ≡ l.initial.bytes.items ++ replicate l._index 0
