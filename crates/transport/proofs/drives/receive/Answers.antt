use Rattle.transport.proofs.Common.{arith, length, refl, rules, ◌<◌, ◌≤◌}
use Rattle.transport.proofs.Driving.{bytes_came, input_ended, comes_fail}
use Rattle.transport.proofs.drives.receive.Goals as goal

pub returns-in-Ok-eq0-clause-went : goal.returns-in-Ok-eq0-clause-went
returns-in-Ok-eq0-clause-went g c past =
    let ended = rw c.in-Ok-eq0.field-0-test at c.in-Ok-eq0.ensures.bytes in
    let room : 0 < length c.recv_wait.new.room = search rules in
    rw c.leave.ensures.end (input_ended c.leave.ensures.dropped c.leave.ensures.told (rw c.requires.due tt) ended.0 (ended.1 refl room))

pub returns-in-Ok-clause-went : goal.returns-in-Ok-clause-went
returns-in-Ok-clause-went g c past =
    let some : 1 ≤ c.in-Ok.count = omega (arith, c.in-Ok.count-test.1) in
    let most : length c.recv_wait.new.room ≤ 65536 = search rules in
    bytes_came past _ _ c.args.since _ _ c.args.session.now c.take.new.session c.recv_wait.new.room c.in-Ok.count c.take.result
    (rw c.requires.due tt) some c.in-Ok.ensures.bound most c.in-Ok.ensures.bytes.0 c.take.ensures.took c.take.ensures.none
    c.take.ensures.told

pub returns-in-Err-clause-went : goal.returns-in-Err-clause-went
returns-in-Err-clause-went g c past =
    rw c.leave-in-Err.ensures.end
    (comes_fail c.leave-in-Err.ensures.dropped c.leave-in-Err.ensures.told (rw c.requires.due tt) c.in-Err.ensures.bytes)
