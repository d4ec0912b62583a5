use Rattle.std.proofs.Common.{◌≡◌, ◌++◌, length}
use Rattle.queues.specs.Arrivals.{asks_of, message_fault_of}
use Rattle.queues.proofs.arrivals.read_asks.Given as goal

-- the requests so far, and those of the bodies that still wait, are all; no body so far has a fault
abbrev pub invariant-loop-body : goal.invariant-loop-body
invariant-loop-body l = record {
  asks : l.asks.items ++ asks_of l.unframer.waiting ≡ asks_of l.fn.unframer.waiting;
  fault : message_fault_of l.unframer.waiting ≡ message_fault_of l.fn.unframer.waiting;
  before : l.unframer.before ≡ l.fn.unframer.before;
  limit : l.unframer.limit ≡ l.fn.unframer.limit;
  tail : l.unframer.tail ≡ l.fn.unframer.tail;
}

abbrev pub decreases-loop-body : goal.decreases-loop-body
decreases-loop-body l = length l.unframer.waiting
