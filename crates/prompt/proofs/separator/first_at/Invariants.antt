use Rattle.std.proofs.Common.{◌≡◌, ◌+◌, length}
use Rattle.prompt.proofs.Separating.{later}
use Rattle.prompt.specs.Separators.{first_at}
use Rattle.prompt.proofs.separator.first_at.Given as goal

abbrev pub invariant-loop-rest : goal.invariant-loop-rest
invariant-loop-rest l = record {
  first : first_at l.separator l.text ≡ later l.at (first_at l.separator l.rest);
  place : l.at + length l.rest ≡ 1 + length l.text;
}

abbrev pub decreases-loop-rest : goal.decreases-loop-rest
decreases-loop-rest l = length l.rest
