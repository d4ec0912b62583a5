use Rattle.image.proofs.Common.{drop, flat, length, take, ◌-◌, ◌≡◌, ◌≤◌}
use Rattle.image.proofs.table.read_bytes.Given as goal

abbrev pub invariant-loop-done : goal.invariant-loop-done
invariant-loop-done l = record {
  within : l.done ≤ length l.fn.into;
  many : length l.into ≡ length l.fn.into;
  reads : take l.done l.into ≡ take l.done (drop l.place (flat l.pages));
}

abbrev pub decreases-loop-done : goal.decreases-loop-done
decreases-loop-done l = length l.into - l.done
