use Rattle.std.proofs.Common.{◌≡◌, ◌≤◌, ◌+◌, ◌-◌, length}
use Rattle.std.specs.VecDeque.{deque_len, deque_capacity}
use Rattle.queues.specs.Arrivals.{all_joined}

-- the requests so far have joined, and there is room for the others
abbrev pub invariant-loop-ask : Rattle.queues.proofs.arrivals.Arrivals.join_all.Given.invariant-loop-ask
invariant-loop-ask l = record {
  joined : record { highest = l.self-inside.highest; pending = l.self-inside.pending.items } ≡ all_joined l.fn.self l.yielded;
  room : deque_len l.self-inside.pending + (length l.fn.asks.items - length l.yielded) ≤ deque_capacity l.self-inside.pending;
}
