use Rattle.stepping.proofs.Common.{arith, Debugged, subst, sym, ◌+◌, ◌^◌, ◌∙◌, ◌≤◌}
use Rattle.stepping.specs.contracts.runner.Runner as runner
use Rattle.stepping.proofs.Bursting.{arrives, lists_none, lists_some}
use Rattle.stepping.proofs.Counting.{arrives_counted, not_deeper, still_sound}
use Rattle.stepping.proofs.runner.Runner.make_burst.Goals as goal

pub retire-burst-requires : goal.retire-burst-requires
retire-burst-requires c =
    let few = subst (λ (x : Debugged). x.retired + c.args.most ≤ 2 ^ 62) (sym c.self.view_is) c.requires.few in
    omega (arith, few, not_deeper c.self.inside.course c.self.inside.retired c.self.invariant.called)

pub invariant_of-self : goal.invariant_of-self
invariant_of-self c =
    still_sound c.self.invariant
    (arrives_counted c.args.most _ _ _ c.retire-burst.result c.retire-burst.new.course c.set_pc.new.self c.self.inside.retired
    c.moved-moved.result c.retire-burst.ensures c.set_pc.ensures c.moved-moved.ensures c.self.invariant.called)

pub invariant_of-self-else-moved-gt0 : goal.invariant_of-self-else-moved-gt0
invariant_of-self-else-moved-gt0 c =
    still_sound c.self.invariant
    (arrives_counted c.args.most _ _ _ c.retire-burst.result c.retire-burst.new.course c.set_pc.new.self c.self.inside.retired
    c.moved-moved.result c.retire-burst.ensures c.set_pc.ensures c.moved-moved.ensures c.self.invariant.called)

pub returns-then-moved-gt0 : goal.returns-then-moved-gt0
returns-then-moved-gt0 c =
    arrives c.args.most c.self.inside.out_of_reach c.moved-moved.result c.retire-burst.result c.retire-burst.new.course c.set_pc.new.self
    c.forget_ids.new.self (runner.the_view c.self.inside) c.args.self.now c.self.view_is c.requires.due c.requires.forward
    c.requires.few c.self.invariant.unmet (not_deeper c.self.inside.course c.self.inside.retired c.self.invariant.called)
    c.retire-burst.ensures c.moved-moved.ensures c.set_pc.ensures (c.forget_ids.ensures ∙ lists_some _ _ (rw c.moved-moved.ensures at c.if-moved-gt0.true))

pub returns-else-moved-gt0 : goal.returns-else-moved-gt0
returns-else-moved-gt0 c =
    arrives c.args.most c.self.inside.out_of_reach c.moved-moved.result c.retire-burst.result c.retire-burst.new.course c.set_pc.new.self
    _ (runner.the_view c.self.inside) c.args.self.now c.self.view_is c.requires.due c.requires.forward c.requires.few
    c.self.invariant.unmet (not_deeper c.self.inside.course c.self.inside.retired c.self.invariant.called) c.retire-burst.ensures
    c.moved-moved.ensures c.set_pc.ensures (lists_none _ _ (rw c.moved-moved.ensures at c.if-moved-gt0.false))
