use Rattle.course.proofs.Common.{AllAreKept, ap, Course, course_of, drop, gone_back, List, Move, moves_of, Position, subst, sym, UndoNeedsPage, ◌∙◌, ◌≡◌}
use Rattle.course.proofs.Coursing.{newest, none_back}
use Rattle.course.proofs.Making.{on_err}
use Rattle.course.proofs.course.Course.go_back.Goals as goal

pub returns-in_default-clause-ok : goal.returns-in_default-clause-ok
returns-in_default-clause-ok c =
    let same : course_of c.self.inside.machine (moves_of c.newest.new.self) ≡ c.args.self.now = ap
    (course_of c.self.inside.machine) c.newest.ensures.same
    ∙ c.self.view_is in
    same ∙ subst (λ (x : Course). x ≡ gone_back x) c.self.view_is
    (none_back (moves_of c.self.inside.log) c.self.inside.machine (sym c.in_default.ensures.newest))

pub undo-requires : goal.undo-requires
undo-requires c =
    (newest (moves_of c.self.inside.log) c.in-Some.made c.self.inside.machine (sym c.in-Some.ensures.newest) c.self.invariant).fits

-- what is left when the newest is undone and forgotten
pub invariant_of-self-2 : goal.invariant_of-self-2
invariant_of-self-2 c =
    let p : Position = c.self.inside.machine in
    let moves : List Move = moves_of c.self.inside.log in
    let made : Move = c.in-Some.made in
    let more : moves_of c.drop_newest.new.self ≡ drop 1 moves = c.drop_newest.ensures ∙ ap (drop 1) c.newest.ensures.same in
    subst (λ (l : List Move). AllAreKept l c.undo.new.self) (sym more)
    (subst (AllAreKept (drop 1 moves)) (sym c.in_ok-undo.ensures.ok)
    (newest moves made p (sym c.in-Some.ensures.newest) c.self.invariant).rest)

pub returns-clause-ok : goal.returns-clause-ok
returns-clause-ok c =
    let p : Position = c.self.inside.machine in
    let moves : List Move = moves_of c.self.inside.log in
    let more : moves_of c.drop_newest.new.self ≡ drop 1 moves = c.drop_newest.ensures ∙ ap (drop 1) c.newest.ensures.same in
    (λ j. course_of (c.in_ok-undo.ensures.ok j) (more j))
    ∙ sym (newest moves c.in-Some.made p (sym c.in-Some.ensures.newest) c.self.invariant).back
    ∙ ap gone_back c.self.view_is

pub returns-in_err-undo-clause-lacks : goal.returns-in_err-undo-clause-lacks
returns-in_err-undo-clause-lacks c =
    on_err c.from_residual.result
    (subst (λ (x : Course). UndoNeedsPage x.past x.now.memory) c.self.view_is
    ((newest (moves_of c.self.inside.log) c.in-Some.made c.self.inside.machine (sym c.in-Some.ensures.newest) c.self.invariant).lacks
    c.in_err-undo.ensures.lacks))
