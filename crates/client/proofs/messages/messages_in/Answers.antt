use Rattle.mirror.proofs.Streaming.{messages_more, smaller}
use Rattle.client.proofs.Bodies.{read_as}
use Rattle.client.proofs.messages.messages_in.Goals as goal

pub loop-body-smaller : goal.loop-body-smaller
loop-body-smaller c = smaller c.loop-body.unframer _ c.in-Some.body.now c.next_body.follows.holds-at-none c.in-Some.ensures.body

pub loop-body-preserved : goal.loop-body-preserved
loop-body-preserved c =
    let read = read_as c.in-Some.body.now c.read_message.result _ c.read_message.ensures.exact c.in-Ok.is in
    messages_more c.loop-body.unframer _ c.in-Some.body.now c.in-Ok.message c.loop-body.messages.items _ _ c.next_body.follows.holds-at-none
    c.in-Some.ensures.body read c.in_ok-push-in-Ok.ensures.items c.loop-body.invariant
