use Rattle.watch_events.proofs.Common.{length, nothing_past, requests_of, StandsFor}
use Rattle.watch_events.proofs.Telling.{Telling}
use Rattle.watch_events.proofs.watching.tell.Given as goal

-- the requests so far were told, and those in the bodies that wait are left
abbrev pub invariant-loop-body : goal.invariant-loop-body
invariant-loop-body l = StandsFor l.fn.mirror nothing_past → Telling l.unframer.waiting (requests_of l.accepted) l.mirror

abbrev pub decreases-loop-body : goal.decreases-loop-body
decreases-loop-body l = length l.unframer.waiting
