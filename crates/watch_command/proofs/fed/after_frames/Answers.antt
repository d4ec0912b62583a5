use Rattle.watch_command.proofs.Common.{ap, Unframed}
use Rattle.watch_command.proofs.Leaving.{left_step, none_left}
use Rattle.watch_command.proofs.fed.after_frames.Goals as goal

pub loop-body-preserved : goal.loop-body-preserved
loop-body-preserved c =
    left_step c.loop-body.left.now c.after_frame-left.result.now c.in-Some.body.now c.loop-body.unframer.waiting _ _ c.in-Some.ensures.body
    c.after_frame-left.ensures (ap (λ (u : Unframed). u.waiting) c.next_body.follows.holds-at-none) c.loop-body.invariant

pub returns : goal.returns
returns c = none_left c.loop-body.left.now c.loop-body.unframer.waiting _ c.in_default.ensures.body c.loop-body.invariant
