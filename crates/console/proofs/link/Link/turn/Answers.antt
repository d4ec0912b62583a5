use Rattle.console.proofs.Following.{calls}
use Rattle.console.proofs.link.Link.turn.Goals as goal

pub invariant_of-self : goal.invariant_of-self
invariant_of-self c = calls _ _ _ _ c.turn.ensures c.self.invariant
