use Rattle.stepping.proofs.Common.{arith, Debugged, length, subst, UndoNeedsPage, ◌<◌}
use Rattle.course.proofs.Making.{on_err}
use Rattle.stepping.proofs.Counting.{still_sound, undone_counts}
use Rattle.stepping.proofs.runner.Runner.undo.Goals as goal

pub overflow_sub-self : goal.overflow_sub-self
overflow_sub-self c =
    let some : 0 < length c.self.inside.course.past = omega (arith, c.recorded-undoes.ensures.recorded, c.if-undoes.true) in
    omega (arith, (undone_counts c.self.inside.course c.self.inside.retired c.self.invariant.called some).0)

pub invariant_of-self-then-undoes : goal.invariant_of-self-then-undoes
invariant_of-self-then-undoes c =
    let some : 0 < length c.self.inside.course.past = omega (arith, c.recorded-undoes.ensures.recorded, c.if-undoes.true) in
    still_sound c.self.invariant (rw c.in_ok-go_back.ensures.ok
    (undone_counts c.self.inside.course c.self.inside.retired c.self.invariant.called some).1)

pub returns-in_err-go_back-clause-lacks : goal.returns-in_err-go_back-clause-lacks
returns-in_err-go_back-clause-lacks c =
    on_err c.from_residual.result
    (subst (λ (d : Debugged). UndoNeedsPage d.past d.memory) c.self.view_is c.in_err-go_back.ensures.lacks)
