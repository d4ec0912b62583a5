use Rattle.framing.proofs.Common.{drop, lines_of, take, ◌-◌, ◌≡◌}
use Rattle.framing.proofs.LineLemmas.{onto_line}

abbrev pub invariant-loop-i : Rattle.framing.proofs.header.split_line.Given.invariant-loop-i
invariant-loop-i l =
    lines_of l.lines ≡ onto_line (take (l.i - 1) l.lines) (lines_of (drop (l.i - 1) l.lines))
