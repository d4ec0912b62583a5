use Rattle.transport.proofs.Common.{HasHeard, Heard, length, ◌≡◌}
use Rattle.transport.proofs.inbox.take_message.Given as goal

-- what was passed over changes nothing of what was heard
abbrev pub invariant-loop-body : goal.invariant-loop-body
invariant-loop-body l = record {
  heard : (heard : Heard) → HasHeard l.fn.unframer heard → HasHeard l.unframer heard;
  tail : l.unframer.tail ≡ l.fn.unframer.tail;
}

abbrev pub decreases-loop-body : goal.decreases-loop-body
decreases-loop-body l = length l.unframer.waiting
