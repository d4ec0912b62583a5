use Rattle.session.proofs.Common.{ltb, ◌+◌}
use Rattle.session.proofs.Stretching.{ends_there, is_left}
use Rattle.session.proofs.state.State.go_on.Goals as goal

pub returns-in-End-clause-stretches : goal.returns-in-End-clause-stretches
returns-in-End-clause-stretches c = λ m. rw c.ends.ensures
    (ends_there (m + c.args.left) m (ltb 0 c.args.left) c.args.self.now c.in-End.ending (is_left m c.args.left)
    (rw c.in-End.is at c.next.ensures))

pub returns-in-Stop-clause-stretches : goal.returns-in-Stop-clause-stretches
returns-in-Stop-clause-stretches c = λ m. c.step_stopping.ensures.stretches (m + c.args.left) m (is_left m c.args.left)
