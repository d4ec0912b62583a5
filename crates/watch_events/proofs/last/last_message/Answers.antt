use Rattle.mirror.proofs.Streaming.{smaller}
use Rattle.watch_events.proofs.Lasts.{all_left, at_last, one_less}
use Rattle.watch_events.proofs.last.last_message.Goals as goal

pub loop-body-smaller : goal.loop-body-smaller
loop-body-smaller c = smaller c.loop-body.unframer _ c.in-Some.body.now c.next_body.follows.holds-at-none c.in-Some.ensures.body

pub loop-body-init : goal.loop-body-init
loop-body-init c none = all_left c.in_ok-unframer.unframer.waiting c.args.bytes.now c.in_ok-unframer.ensures none

pub loop-body-preserved : goal.loop-body-preserved
loop-body-preserved c none =
    one_less c.loop-body.unframer _ c.in-Some.body.now c.args.bytes.now c.in_ok-says_output_in.field-0 c.loop-body.last c.next_body.follows.holds-at-none
    c.in-Some.ensures.body c.in_ok-says_output_in.ensures (c.loop-body.invariant none)

pub returns : goal.returns
returns c none =
    at_last c.args.bytes.now c.loop-body.unframer.waiting c.loop-body.last c.in_default.ensures.body (c.loop-body.invariant none)
