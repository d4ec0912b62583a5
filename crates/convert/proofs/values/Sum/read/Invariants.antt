abbrev pub decreases-tokens : Rattle.convert.proofs.values.Sum.read.Given.decreases-tokens
decreases-tokens l = Rattle.std.proofs.Common.length l.rest
