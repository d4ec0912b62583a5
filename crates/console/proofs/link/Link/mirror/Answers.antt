use Rattle.std.proofs.Common.{subst}
use Rattle.console.proofs.link.Link.mirror.Goals as goal
use Rattle.console.specs.Following.{IsFollowing}

pub returns-clause-follows : goal.returns-clause-follows
returns-clause-follows c = subst IsFollowing c.self.view_is c.self.invariant
