use Rattle.std.proofs.Common.{◌≤◌, vec_len}

abbrev pub invariant-loop-statement : Rattle.convert.proofs.draft.Draft.rewrite.Given.invariant-loop-statement
invariant-loop-statement l = vec_len l.initial.self.origins ≤ vec_len l.self.origins
