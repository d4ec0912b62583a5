use Rattle.watch_command.proofs.Common.{flat_map, length, line, ◌++◌, ◌≡◌}
use Rattle.watch_command.proofs.shown.add_bodies.Given as goal

-- the lines so far, and those of the bodies that still wait, are all
abbrev pub invariant-loop-body : goal.invariant-loop-body
invariant-loop-body l = record {
  lines : l.text.items ++ flat_map (line l.number l.mark) l.unframer.waiting ≡ l.fn.text.items ++ flat_map (line l.number l.mark) l.fn.unframer.waiting;
  limit : l.unframer.limit ≡ l.fn.unframer.limit;
  tail : l.unframer.tail ≡ l.fn.unframer.tail;
}

abbrev pub decreases-loop-body : goal.decreases-loop-body
decreases-loop-body l = length l.unframer.waiting
