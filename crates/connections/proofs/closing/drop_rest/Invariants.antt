-- Before each look the pieces that were counted are dropped, and neither they nor the waits are above their limits.
use Rattle.std.proofs.Common.{◌≡◌, ◌+◌, ◌*◌, ◌-◌, ◌≤◌, length}
use Rattle.connections.specs.Lingering.{most_pieces, most_waits, Dropped}
use Rattle.connections.proofs.closing.drop_rest.Given as goal

abbrev pub invariant-lingering : goal.invariant-lingering
invariant-lingering g l = record {
  long : length l.room ≡ length l.initial.room;
  pieces : l.lingering.pieces ≤ most_pieces;
  waits : l.lingering.waits ≤ most_waits;
  dropped : Dropped (g.R.Read.remaining l.initial.reader) (g.R.Read.remaining l.reader) (l.lingering.pieces * length l.initial.room);
}

abbrev pub decreases-lingering : goal.decreases-lingering
decreases-lingering g l = (most_pieces - l.lingering.pieces) + (most_waits - l.lingering.waits)
