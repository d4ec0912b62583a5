abbrev pub invariant-loop-index : Rattle.listing.proofs.entries.entries_of.Given.invariant-loop-index
invariant-loop-index l = Rattle.listing.proofs.Listed.ArePartly l.image l.index (Rattle.std.proofs.Common.string_bytes l.lines)
