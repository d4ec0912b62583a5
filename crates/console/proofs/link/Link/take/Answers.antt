use Rattle.console.proofs.Following.{takes}
use Rattle.console.proofs.link.Link.take.Goals as goal

pub invariant_of-self : goal.invariant_of-self
invariant_of-self c = takes _ _ _ c.take.ensures.goes c.self.invariant
