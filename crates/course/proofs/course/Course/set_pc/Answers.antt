use Rattle.course.proofs.Common.{AllAreKept, ap, Course, course_of, moves_of, Position, position_at, subst, sym, ◌∙◌}
use Rattle.course.proofs.Coursing.{all_at, settled}
use Rattle.course.proofs.course.Course.set_pc.Goals as goal

pub invariant_of-self : goal.invariant_of-self
invariant_of-self c =
    let p = c.self.inside.machine in
    let moves = moves_of c.self.inside.log in
    subst (AllAreKept moves) (sym c.set_pc.ensures) (all_at moves c.args.pc p c.self.invariant)

pub returns : goal.returns
returns c =
    ap (λ (q : Position). course_of q (moves_of c.self.inside.log)) c.set_pc.ensures
    ∙ settled c.self.inside.machine (moves_of c.self.inside.log) c.args.pc
    ∙ ap (λ (x : Course). record { now = position_at c.args.pc x.now; past = x.past }) c.self.view_is
