use Rattle.course.proofs.Common.{AllAreKept, ap, arith, Bool, cond, Course, course_of, false, IsOfStore, kept_of_pc, Move, moves_of, Ok, Position, position_at, recorded, retires, settles, subst, sym, true, undo_in, unmade, ◌∙◌, ◌≡◌, ◌≤◌}
use Rattle.course.proofs.Coursing.{all_at, all_kept, settled, stepped_back, went}
use Rattle.course.proofs.course.Course.settle.Goals as goal

pub invariant_of-self : goal.invariant_of-self
invariant_of-self c =
    let p = c.self.inside.machine in
    let moves = moves_of c.self.inside.log in
    let next = c.settle.new.self.hart.pc in
    subst (AllAreKept moves) (sym c.settle.ensures.rest) (all_at moves next p c.self.invariant)

pub returns-in-Err-clause-rest : goal.returns-in-Err-clause-rest
returns-in-Err-clause-rest c =
    let p = c.self.inside.machine in
    let moves = moves_of c.self.inside.log in
    ap (λ (q : Position). course_of q moves) c.settle.ensures.rest
    ∙ settled p moves c.settle.new.self.hart.pc
    ∙ ap (λ (x : Course). record { now = position_at c.settle.new.self.hart.pc x.now; past = x.past }) c.self.view_is

pub invariant_of-self-then-has_retired : goal.invariant_of-self-then-has_retired
invariant_of-self-then-has_retired c =
    let p = c.self.inside.machine in
    let moves = moves_of c.self.inside.log in
    let next = c.settle.new.self.hart.pc in
    let made : Move = c.of_pc.result in
    let is : made ≡ kept_of_pc p.hart.pc = c.of_pc.ensures ∙ ap (λ (h : _). kept_of_pc h.pc) c.hart.ensures in
    let back : unmade made c.settle.new.self ≡ position_at p.hart.pc p = (λ j. unmade (is j) (c.settle.ensures.rest j))
    ∙ stepped_back next p in
    let stored : IsOfStore made (position_at p.hart.pc p) = λ some.
    (let none : 1 ≤ 0 = subst (λ (x : Move). 1 ≤ (undo_in x).count) is some in
    absurd (omega (arith, none))) in
    all_kept moves (moves_of c.push.new.self) made p c.settle.new.self p.hart.pc c.push.ensures.moves back c.settle.ensures.kept stored
    c.self.invariant

pub returns-then-has_retired-clause-rest : goal.returns-then-has_retired-clause-rest
returns-then-has_retired-clause-rest c =
    let p = c.self.inside.machine in
    let moves = moves_of c.self.inside.log in
    let next = c.settle.new.self.hart.pc in
    let made : Move = c.of_pc.result in
    let is : made ≡ kept_of_pc p.hart.pc = c.of_pc.ensures ∙ ap (λ (h : _). kept_of_pc h.pc) c.hart.ensures in
    let back : unmade made c.settle.new.self ≡ position_at p.hart.pc p = (λ j. unmade (is j) (c.settle.ensures.rest j))
    ∙ stepped_back next p in
    let past = went moves (moves_of c.push.new.self) made p c.settle.new.self p.hart.pc c.push.ensures.moves back in
    let retired : retires (Ok c.in-Ok.stepped) ≡ true = sym c.has_retired.ensures ∙ c.if-has_retired.true in
    (λ j. record { now = c.settle.ensures.rest j; past = past j })
    ∙ ap (λ (x : Course). record { now = position_at next x.now; past = recorded x.now.hart.pc x }) c.self.view_is
    ∙ ap (λ (b : Bool). record {
      now = position_at next c.args.self.now.now;
      past = cond b (recorded c.args.self.now.now.hart.pc c.args.self.now) c.args.self.now.past;
    }) (sym retired)

pub invariant_of-self-else-has_retired : goal.invariant_of-self-else-has_retired
invariant_of-self-else-has_retired c =
    let p = c.self.inside.machine in
    let moves = moves_of c.self.inside.log in
    let next = c.settle.new.self.hart.pc in
    subst (AllAreKept moves) (sym c.settle.ensures.rest) (all_at moves next p c.self.invariant)

pub returns-else-has_retired-clause-rest : goal.returns-else-has_retired-clause-rest
returns-else-has_retired-clause-rest c =
    let p = c.self.inside.machine in
    let moves = moves_of c.self.inside.log in
    let next = c.settle.new.self.hart.pc in
    let stayed : retires (Ok c.in-Ok.stepped) ≡ false = sym c.has_retired.ensures ∙ c.if-has_retired.false in
    ap (λ (q : Position). course_of q moves) c.settle.ensures.rest
    ∙ settled p moves next
    ∙ ap (λ (x : Course). record { now = position_at next x.now; past = x.past }) c.self.view_is
    ∙ ap (λ (b : Bool). record {
      now = position_at next c.args.self.now.now;
      past = cond b (recorded c.args.self.now.now.hart.pc c.args.self.now) c.args.self.now.past;
    }) (sym stayed)

pub returns-then-has_retired-clause-pc : goal.returns-then-has_retired-clause-pc
returns-then-has_retired-clause-pc c =
    subst (λ (x : Course). settles c.args.halt x.now.hart.pc x.now.hart.x (Ok c.in-Ok.stepped) c.settle.new.self.hart.pc) c.self.view_is
    c.in-Ok.ensures.pc
