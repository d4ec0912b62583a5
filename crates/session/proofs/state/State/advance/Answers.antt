use Rattle.session.proofs.Common.{ap, arith, Debugged, Kept, Some, sym, turns_back, ◌∙◌, ◌≡◌}
use Rattle.session.proofs.Advancing.{advance_moves, HasLeft, the_free_one}
use Rattle.session.proofs.Told.{with_one}

pub returns : Rattle.session.proofs.state.State.advance.Goals.returns
returns c =
    let k : Kept = c.args.self.now in
    let p = c.in-Some.program in
    let is : k.now.debuggee.program ≡ Some p = sym (ap (λ (x : Kept). x.now.debuggee.program) c.self.view_is) ∙ c.in-Some.is in
    let last = ap (λ (x : Kept). x.now.limits.last_retired) c.self.view_is in
    let retired = ap (λ (d : Debugged). d.retired) c.machine.ensures in
    let turns = ap (λ (d : Debugged). turns_back d.goal) c.machine.ensures in
    let few : HasLeft c.most_of-most.result k p =
    λ forward. let sum = c.most_of-most.ensures.sum (turns ∙ forward) in omega (arith, last, retired, sum) in
    advance_moves c.args.left c.most_of-most.result k _ p c.advance-advanced.new.self c.advance-advanced.result
    (the_free_one k c.requires.free.0 p is c.requires.free.1) c.most_of-most.ensures.some c.most_of-most.ensures.few few
    c.advance-advanced.ensures (ap (with_one c.advance-advanced.new.self) c.self.view_is)
