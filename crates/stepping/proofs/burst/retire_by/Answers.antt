use Rattle.stepping.proofs.Common.{ap, arith, IsFar, Kept, refl, Retire, subst, ℕ, ◌∙◌, ◌≡◌}
use Rattle.stepping.proofs.Bursting.{retire_more, retires_deeper}
use Rattle.stepping.proofs.burst.retire_by.Goals as goal

pub returns-then-is_near : goal.returns-then-is_near
returns-then-is_near g c = record {
  pc = c.loop-went.pc;
  middle = c.loop-went.course;
  retire = c.loop-went.invariant.retire;
  ends = (c.loop-went-test.true, c.in-Ok.ensures);
  stays = c.in-Ok.ensures.0.pc ∙ c.loop-went.invariant.stays;
}

pub returns-in-Err : goal.returns-in-Err
returns-in-Err g c = record {
  pc = c.loop-went.pc;
  middle = c.loop-went.course;
  retire = c.loop-went.invariant.retire;
  ends = (c.loop-went-test.true, (c.in-Err.ensures, refl));
  stays = ap (λ p. p.now.hart.pc) c.in-Err.ensures.1 ∙ c.loop-went.invariant.stays;
}

pub loop-went-preserved : goal.loop-went-preserved
loop-went-preserved g c =
    let far : IsFar c.args.breaks.now c.args.reach c.in-Ok.next c.quick.new.self.now.calls.depth =
    subst (λ (k : Kept). IsFar c.args.breaks.now c.args.reach c.in-Ok.next k.depth) c.calls.ensures c.if-is_near.ensures in
    record {
      retire =
          retire_more c.loop-went.went _ _ _ c.loop-went.pc c.in-Ok.next _ c.loop-went.course c.quick.new.self c.loop-went.invariant.retire c.in-Ok.ensures far;
      deep =
          omega (arith, c.loop-went.invariant.deep, retires_deeper c.loop-went.pc c.in-Ok.next c.loop-went.course.now c.quick.new.self.now c.in-Ok.ensures.0);
      stays = c.in-Ok.ensures.0.pc ∙ c.loop-went.invariant.stays;
    }

pub returns : goal.returns
returns g c =
    let all : c.loop-went.went ≡ c.args.most = omega (arith, c.loop-went.auto.went-end, c.loop-went-test.false) in
    record {
      pc = c.loop-went.pc;
      middle = c.loop-went.course;
      retire =
          subst (λ (n : ℕ). Retire n c.args.breaks.now c.args.reach c.args.course.now.now.hart.pc c.args.course.now c.loop-went.pc c.loop-went.course) all
          c.loop-went.invariant.retire;
      ends = (refl, (refl, refl));
      stays = c.loop-went.invariant.stays;
    }
