use Rattle.std.proofs.Common.{ℕ, ◌<◌, ◌≤◌, get_or}
use Rattle.indexmap.specs.IndexMap.{values}

abbrev pub invariant-loop-index : Rattle.image.proofs.lines.order_of.Given.invariant-loop-index
invariant-loop-index l = (i j : ℕ) → i < j → j < l.index → get_or (values l.labels) i 0 ≤ get_or (values l.labels) j 0
