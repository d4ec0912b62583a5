use Rattle.std.proofs.Common.{ℕ, ◌*◌, ◌+◌, ◌≤◌, subst}
use Rattle.session.proofs.Slicing.{has_ended, slice_ends}
use Rattle.session.proofs.state.State.slice.Goals as goal

pub returns-in-Some : goal.returns-in-Some
returns-in-Some c =
    slice_ends c.args.moves c.loop.counter c.loop.moved c.args.self.now c.loop.self c.go_on-step.new.self c.go_on-step.result
    c.in-Some.ending c.loop.invariant (c.go_on-step.ensures.stretches c.loop.moved) c.in-Some.is

pub returns : goal.returns
returns c =
    absurd (has_ended c.args.moves c.loop.counter c.loop.moved c.args.self.now c.loop.self c.loop.invariant
    (subst (λ (m : ℕ). 2 * m + 4 ≤ c.loop.counter) c.from.ensures c.loop-test.false))
