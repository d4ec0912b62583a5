use Rattle.std.proofs.Common.{◌≡◌, drop}
use Rattle.byte_strings.specs.Blanks.{without_leading_blanks}

abbrev pub invariant-loop-i : Rattle.byte_strings.proofs.blanks.without_leading_blanks.Given.invariant-loop-i
invariant-loop-i l = without_leading_blanks (drop l.i l.text) ≡ without_leading_blanks l.text
