abbrev pub decreases-waiting : Rattle.convert.proofs.values.reduce.Given.decreases-waiting
decreases-waiting l = Rattle.std.proofs.Common.vec_len l.waiting
