use Rattle.transport.proofs.Driving.{sends_over, sends_fail}
use Rattle.transport.proofs.drives.send.Goals as goal

pub returns-in-Ok-clause-went : goal.returns-in-Ok-clause-went
returns-in-Ok-clause-went g c past =
    sends_over c.in-Ok.count c.waiting.result.now c.waiting.ensures c.requires c.sent.ensures.stands c.sent.ensures.takes_none
    c.in-Ok.ensures.bound c.in-Ok.ensures.some c.in-Ok.ensures.bytes c.tell.ensures

pub returns-in-Err-clause-went : goal.returns-in-Err-clause-went
returns-in-Err-clause-went g c past =
    rw c.leave.ensures.end
    (sends_fail c.leave.ensures.dropped c.leave.ensures.told c.waiting.result.now c.waiting.ensures c.requires c.in-Err.ensures.bytes)
