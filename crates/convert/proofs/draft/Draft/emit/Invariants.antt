use Rattle.std.proofs.Common.{◌≤◌, vec_len}

abbrev pub invariant-loop-line : Rattle.convert.proofs.draft.Draft.emit.Given.invariant-loop-line
invariant-loop-line l = vec_len l.initial.self.origins ≤ vec_len l.self.origins
