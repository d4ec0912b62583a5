use Rattle.std.proofs.Common.{◌≤◌, vec_len}

abbrev pub invariant-loop-label : Rattle.convert.proofs.draft.Draft.push_labelled.Given.invariant-loop-label
invariant-loop-label l = vec_len l.initial.self.origins ≤ vec_len l.self.origins
