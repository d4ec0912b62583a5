use Rattle.console.proofs.Following.{sends}
use Rattle.console.proofs.link.Link.send.Goals as goal

pub invariant_of-self : goal.invariant_of-self
invariant_of-self c = sends _ _ _ _ c.send.ensures c.self.invariant
