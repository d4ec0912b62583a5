use Rattle.stepping.proofs.Common.{ap, arith, Debugged, entry_tick, None, refl, seen, subst, true, turns_back, ◌∙◌, ◌≡◌}
use Rattle.stepping.proofs.Going.{goes_goal, goes_retire, halted_stretches, one_more}
use Rattle.stepping.proofs.runner.Runner.stretch.Goals as goal

pub returns-then-self : goal.returns-then-self
returns-then-self c =
    let due = subst (λ (d : Debugged). d.check_due ≡ true) c.self.view_is c.if-self.true in
    rw c.stretch_of.ensures (one_more c.args.most 0 c.args.self.now c.args.self.now c.check_entry.new.self (entry_tick c.args.self.now)
    c.check_entry.result c.requires.some refl (rw due (refl, c.check_entry.ensures.state)) c.check_entry.ensures.ending)

pub halted-requires-clause-few : goal.halted-requires-clause-few
halted-requires-clause-few c =
    let ends = rw c.in-Halted.is at c.make_burst-went.ensures in
    omega (arith, ends.0, goes_retire c.make_burst-went.result.0 c.args.self.now c.make_burst-went.new.self ends.1.0, c.requires.few)

pub halted-requires-clause-forward : goal.halted-requires-clause-forward
halted-requires-clause-forward c =
    let ends = rw c.in-Halted.is at c.make_burst-went.ensures in
    ap turns_back (goes_goal c.make_burst-went.result.0 c.args.self.now c.make_burst-went.new.self ends.1.0) ∙ c.requires.forward

pub returns-in-Near : goal.returns-in-Near
returns-in-Near c =
    let ends = rw c.in-Near.is at c.make_burst-went.ensures in
    let moved = ends.1.1.1 in
    rw c.stretch_of-in-Near.ensures (one_more c.args.most c.make_burst-went.result.0 c.args.self.now ends.1.0 c.check_closely.new.self
    (record { printed = None; outcome = seen c.make_burst-went.new.self }) c.check_closely.result ends.0 ends.1.1.0
    (rw c.check_closely.ensures.state moved.tick) c.check_closely.ensures.ending)

pub returns-in-Halted : goal.returns-in-Halted
returns-in-Halted c =
    let ends = rw c.in-Halted.is at c.make_burst-went.ensures in
    halted_stretches c.args.most c.make_burst-went.result.0 c.args.self.now c.make_burst-went.new.self c.halted.new.self c.halted.result ends.0
    ends.1.0 c.halted.ensures
