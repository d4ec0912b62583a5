use Rattle.std.proofs.Common.{◌≡◌, ◌++◌, map, take, drop}
use Rattle.std.specs.VecDeque.{deque_len, deque_capacity}
use Rattle.queues.specs.Arrivals.{cancelled_by, fate_of_cancel}

-- the requests so far are cancelled where they are named, and the others are as they were
abbrev pub invariant-loop-i : Rattle.queues.proofs.arrivals.cancel.Given.invariant-loop-i
invariant-loop-i l = record {
  items : l.pending.items ≡ map (cancelled_by l.id) (take l.i l.fn.pending.items) ++ drop l.i l.fn.pending.items;
  fate : l.fate ≡ fate_of_cancel l.id (take l.i l.fn.pending.items);
  len : deque_len l.pending ≡ deque_len l.fn.pending;
  capacity : deque_capacity l.pending ≡ deque_capacity l.fn.pending;
}
