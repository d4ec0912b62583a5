abbrev pub invariant-loop-i : Rattle.framing.proofs.header.header_size.Given.invariant-loop-i
invariant-loop-i l = Rattle.framing.specs.Private.Lines.EndsPast l.i l.bytes
