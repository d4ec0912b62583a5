use Rattle.watch_events.proofs.Common.{Bool, requests_of, subst, TellsBody}
use Rattle.protocol.specs.Reading.{incoming_of}
use Rattle.watch_events.proofs.Telling.{next_telling, told_to_fault}
use Rattle.watch_events.proofs.watching.tell.Goals as goal

pub returns-then-not-branch : goal.returns-then-not-branch
returns-then-not-branch c st =
    let told = subst (λ (b : Bool). TellsBody
    (incoming_of c.in-Some.body.now) b c.loop-body.mirror c.tell_body.new.mirror) c.if-not-branch.true c.in_ok-tell_body.ensures in
    told_to_fault (requests_of c.args.accepted.now) c.loop-body.unframer.waiting c.in-Some.body.now c.loop-body.mirror c.tell_body.new.mirror c.in-Some.ensures.body told (c.loop-body.invariant st)

pub loop-body-preserved : goal.loop-body-preserved
loop-body-preserved c st =
    let told = subst (λ (b : Bool). TellsBody
    (incoming_of c.in-Some.body.now) b c.loop-body.mirror c.tell_body.new.mirror) c.if-not-branch.false c.in_ok-tell_body.ensures in
    next_telling c.loop-body.unframer _ c.in-Some.body.now
    (requests_of c.args.accepted.now) c.loop-body.mirror c.tell_body.new.mirror c.next_body.follows.holds-at-none c.in-Some.ensures.body told (c.loop-body.invariant st)
