use Rattle.stepping.proofs.Common.{Debugged, Halts, position_of, refl, subst, sym}
use Rattle.stepping.specs.contracts.runner.Runner as runner
use Rattle.stepping.proofs.Counting.{counts_alike, not_deeper, settled_counts, still_sound}
use Rattle.stepping.proofs.Halting.{halt_lacks, halt_ticks}
use Rattle.stepping.proofs.runner.Runner.halted.Goals as goal

pub invariant_of-self : goal.invariant_of-self
invariant_of-self c =
    still_sound c.self.invariant (rw (c.settle.ensures.rest, c.in-Ok.is, c.counted_by.ensures)
    (settled_counts c.in-Ok.stepped c.settle.new.self.now.hart.pc c.self.inside.course c.self.inside.retired c.self.invariant.called))

pub invariant_of-self-in-Err : goal.invariant_of-self-in-Err
invariant_of-self-in-Err c =
    let called = c.self.invariant.called in
    still_sound c.self.invariant (rw (c.settle.ensures.rest, c.in-Err.is)
    (counts_alike c.self.inside.course _ c.self.inside.retired (not_deeper _ _ called) refl called))

pub settle-requires : goal.settle-requires
settle-requires c =
    subst (λ (x : Debugged). Halts x.hart.pc c.args.halt (position_of x)) (sym c.self.view_is) c.requires.halts

pub returns-in-Ok : goal.returns-in-Ok
returns-in-Ok c =
    halt_ticks (runner.the_view c.self.inside) c.args.self.now c.self.view_is c.requires.due c.requires.forward c.args.halt c.requires.halts
    c.in-Ok.stepped c.settle.new.self.now.hart.pc c.counted_by.result c.settle.new.self c.tick_after.result c.tick_after.new.self
    (rw c.in-Ok.is at c.settle.ensures.pc) (rw c.in-Ok.is at c.settle.ensures.rest) c.counted_by.ensures c.tick_after.ensures.tick
    c.tick_after.ensures.state

pub returns-in-Err : goal.returns-in-Err
returns-in-Err c =
    halt_lacks (runner.the_view c.self.inside) c.args.self.now c.self.view_is c.requires.due c.requires.forward c.args.halt
    c.requires.halts c.in-Err.field-0 c.settle.new.self.now.hart.pc c.settle.new.self (rw c.in-Err.is at c.settle.ensures.pc)
    (rw c.in-Err.is at c.settle.ensures.rest)
