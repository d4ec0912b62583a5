use Rattle.transport.proofs.Common.{length, SendsPrefix}
use Rattle.transport.proofs.outbox.Outbox.send_all.Given as goal

-- what was written so far is a prefix of what waited
abbrev pub invariant-sending : goal.invariant-sending
invariant-sending g l = SendsPrefix (g.W.Write.contents l.fn.writer) (g.W.Write.contents l.writer) l.fn.self l.self

abbrev pub decreases-sending : goal.decreases-sending
decreases-sending g l = length l.self.waiting
