use Rattle.answers.proofs.Common.{length, without_leading_spaces, ◌≡◌}
use denote.Text.{Utf8}
use denote.Shadow.{shadow}
use Rattle.answers.proofs.spaces.without_leading_spaces.Given as goal

abbrev pub invariant-loop-rest : goal.invariant-loop-rest
invariant-loop-rest l = shadow (Utf8 l.left) × (without_leading_spaces l.left ≡ without_leading_spaces l.text)

abbrev pub decreases-loop-rest : goal.decreases-loop-rest
decreases-loop-rest l = length l.left
