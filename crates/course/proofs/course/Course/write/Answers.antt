use Rattle.course.proofs.Common.{AllAreKept, ap, Course, course_of, List, moves_of, Position, subst, sym, ℕ, ◌∙◌, ◌≡◌}
use Rattle.course.proofs.Remembering.{unwritten}
use Rattle.course.proofs.course.Course.write.Goals as goal

-- a write that is refused leaves all as it was
pub invariant_of-self-in-Err : goal.invariant_of-self-in-Err
invariant_of-self-in-Err c =
    let p : Position = c.self.inside.machine in
    let bytes = unwritten 1 p.memory c.args.addr c.args.bytes.now c.in-Err.fault c.write.new.self.memory c.in-Err.ensures.writes in
    let same : c.write.new.self ≡ p = c.in-Err.ensures.rest ∙ ap (λ (m : List ℕ). record p { memory = m }) bytes in
    subst (AllAreKept (moves_of c.self.inside.log)) (sym same) c.self.invariant

pub returns-in-Err-clause-rest : goal.returns-in-Err-clause-rest
returns-in-Err-clause-rest c =
    let p : Position = c.self.inside.machine in
    let now : Course = c.args.self.now in
    let bytes = unwritten 1 p.memory c.args.addr c.args.bytes.now c.in-Err.fault c.write.new.self.memory c.in-Err.ensures.writes in
    let same : c.write.new.self ≡ p = c.in-Err.ensures.rest ∙ ap (λ (m : List ℕ). record p { memory = m }) bytes in
    ap (λ (q : Position). course_of q (moves_of c.self.inside.log)) same
    ∙ c.self.view_is
    ∙ ap (λ (m : List ℕ). record now { now = record now.now { memory = m } })
    (ap (λ (x : Course). x.now.memory) (sym c.self.view_is) ∙ sym bytes)
