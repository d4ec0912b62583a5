use Rattle.watch_events.proofs.Common.{length, None, stream_fault, ◌≡◌}
use Rattle.watch_events.proofs.Lasts.{IsLeft}
use Rattle.watch_events.proofs.last.last_message.Given as goal

-- where the bytes have no fault: the last message so far, and those that still wait
abbrev pub invariant-loop-body : goal.invariant-loop-body
invariant-loop-body l = stream_fault l.bytes ≡ None → IsLeft l.last l.unframer.waiting l.bytes

abbrev pub decreases-loop-body : goal.decreases-loop-body
decreases-loop-body l = length l.unframer.waiting
