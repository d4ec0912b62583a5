use Rattle.transport.proofs.Common.{HasRead, Heard, ◌-◌, ◌≤◌}
use Rattle.transport.specs.Private.Inbox.{Listens}
use Rattle.transport.proofs.server.poll.Given as goal

-- there were no more reads than there may be, and what was read so far held nothing to give
abbrev pub invariant-reading : goal.invariant-reading
invariant-reading g l = record {
  few : l.reads ≤ 2097152;
  listens : (heard : Heard) → HasRead l.fn.inbox heard
      → Listens (g.R.Read.remaining l.fn.reader) (g.R.Read.remaining l.reader) heard l.reads l.inbox;
}

abbrev pub decreases-reading : goal.decreases-reading
decreases-reading g l = 2097152 - l.reads
