use Rattle.console.proofs.Following.{begins}
use Rattle.console.proofs.link.Link.new.Goals as goal

pub invariant_of-result : goal.invariant_of-result
invariant_of-result c = begins c.args.memory_size _ c.in_ok-client.ensures
