use Rattle.std.proofs.Common.{◌∙◌, arith, subst}
use Rattle.session.specs.declared.event.SliceEnd.{SliceEnd}
use Rattle.watch_events.proofs.Tracked.{SlicesOf, all_slices, few_slices, first_slice, next_slice}
use Rattle.watch_events.proofs.track.Track.slice.Goals as goal

pub loop-made-init : goal.loop-made-init
loop-made-init c = record {
  slices = first_slice c.args.self.now c.step.new.self c.in_ok-ending.ending c.in_ok-ending.ensures.keeps;
  same = c.step.ensures.same;
}

pub returns-in_default : goal.returns-in_default
returns-in_default c = record {
  keeps =
      few_slices c.args.self.now c.loop-made.self c.loop-made._made c.args.moves c.loop-made.ending c.in_default.not-Spent c.loop-made.auto._made-end c.loop-made.invariant.slices;
  same = c.loop-made.invariant.same;
}

pub loop-made-preserved : goal.loop-made-preserved
loop-made-preserved c =
    let was = subst (λ (e : SliceEnd). SlicesOf c.args.self.now c.loop-made._made e c.loop-made.self) c.in-Spent.is c.loop-made.invariant.slices in
    let before = c.loop-made.invariant.same in
    let after = c.step-in-Spent.ensures.same in
    record {
      slices =
          next_slice c.args.self.now c.loop-made.self c.step-in-Spent.new.self c.loop-made._made c.in_ok-ending-in-Spent.ending was c.in_ok-ending-in-Spent.ensures.keeps;
      same = (after.0 ∙ before.0, after.1 ∙ before.1);
    }

pub returns-clause-keeps : goal.returns-clause-keeps
returns-clause-keeps c =
    let least = c.loop-made-test.false in
    let most = c.loop-made.auto._made-end in
    all_slices c.args.self.now c.loop-made.self c.loop-made._made c.args.moves c.loop-made.ending
    (omega (arith, least, most)) c.loop-made.invariant.slices
