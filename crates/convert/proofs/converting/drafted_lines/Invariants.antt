use Rattle.std.proofs.Common.{◌≤◌, vec_len}

abbrev pub invariant-loop-i : Rattle.convert.proofs.converting.drafted_lines.Given.invariant-loop-i
invariant-loop-i l = l.i ≤ vec_len l.draft.origins
