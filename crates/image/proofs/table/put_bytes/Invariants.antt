use Rattle.image.proofs.Common.{AreMade, flat, HaveBytes, length, put, take, ◌+◌, ◌-◌, ◌/◌, ◌≤◌}
use Rattle.image.proofs.table.put_bytes.Given as goal

abbrev pub invariant-loop-done : goal.invariant-loop-done
invariant-loop-done l = record {
  within : l.done ≤ length l.bytes;
  puts : HaveBytes l.fn.pages.items (put (flat l.fn.pages.items) l.place (take l.done l.bytes)) l.pages.items;
  made : AreMade l.pages.items (l.place / 4096) ((l.place + length l.bytes + 4095) / 4096);
}

abbrev pub decreases-loop-done : goal.decreases-loop-done
decreases-loop-done l = length l.bytes - l.done
