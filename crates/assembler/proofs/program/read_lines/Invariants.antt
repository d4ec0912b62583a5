use Rattle.assembler.proofs.Common.{after, length, lines, read_lines, ◌+◌, ◌≡◌, ◌≤◌}

abbrev pub invariant-lines : Rattle.assembler.proofs.program.read_lines.Given.invariant-lines
invariant-lines l = record {
  count : l.number + length l.rest ≤ length l.text;
  left : read_lines 1 (lines l.text) ≡ after l.program.items (read_lines (l.number + 1) (lines l.rest));
}

abbrev pub decreases-lines : Rattle.assembler.proofs.program.read_lines.Given.decreases-lines
decreases-lines l = length l.rest
