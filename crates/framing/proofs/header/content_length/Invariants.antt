use Rattle.framing.proofs.Common.{content_length, lines_after, option_copied, ◌≡◌}
use Rattle.framing.proofs.LineLemmas.{length_of, size_left}
use Rattle.framing.proofs.header.content_length.Given as goal

abbrev pub invariant-loop-rest : goal.invariant-loop-rest
invariant-loop-rest l =
    length_of l.limit l.lengths (lines_after (option_copied l.rest)) ≡ content_length l.limit l.text

abbrev pub decreases-loop-rest : goal.decreases-loop-rest
decreases-loop-rest l = size_left (option_copied l.rest)
