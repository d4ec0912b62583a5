use Rattle.variables.proofs.Common.{ap, Numbers}
use Rattle.variables.proofs.Standing.{ended_by}

pub returns-clause-past : Rattle.variables.proofs.handles.Handles.end_stop.Goals.returns-clause-past
returns-clause-past c =
    ended_by c.args.self.now _ _ _ c.next-self-inside.ensures.kept c.clear.ensures.items (ap (λ (n : Numbers). n.last) c.self.view_is)
