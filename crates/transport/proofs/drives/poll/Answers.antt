use Rattle.transport.proofs.Common.{length, rules, ◌<◌, ◌≤◌}
use Rattle.transport.proofs.RoundLemmas.{granted}
use Rattle.transport.proofs.Driving.{bytes_came, input_ended, comes_fail}
use Rattle.transport.proofs.drives.poll.Goals as goal

pub run-requires-clause-moves : goal.run-requires-clause-moves
run-requires-clause-moves g c = granted

pub returns-in-Ok-Bytes-clause-went : goal.returns-in-Ok-Bytes-clause-went
returns-in-Ok-Bytes-clause-went g c past =
    let within = rw c.in-Ok-Bytes.field-0-is at c.in-Ok-Bytes.ensures.bound in
    let room : 0 < length c.recv_now.new.room = search rules in
    let most : length c.recv_now.new.room ≤ 65536 = search rules in
    bytes_came past _ _ c.args.since _ _ c.args.session.now c.take.new.session c.recv_now.new.room c.in-Ok-Bytes.count c.take.result
    (rw c.requires.due c.requires.polls) (within.1 room) within.0 most (rw c.in-Ok-Bytes.field-0-is at c.in-Ok-Bytes.ensures.bytes)
    c.take.ensures.took c.take.ensures.none c.take.ensures.told

pub returns-in-Ok-End-clause-went : goal.returns-in-Ok-End-clause-went
returns-in-Ok-End-clause-went g c past =
    let ended = rw c.in-Ok-End.field-0-is at c.in-Ok-End.ensures.bytes in
    rw c.leave.ensures.end
    (input_ended c.leave.ensures.dropped c.leave.ensures.told (rw c.requires.due c.requires.polls) ended.0 ended.1)

pub returns-in-Err-clause-went : goal.returns-in-Err-clause-went
returns-in-Err-clause-went g c past =
    rw c.leave-in-Err.ensures.end
    (comes_fail c.leave-in-Err.ensures.dropped c.leave-in-Err.ensures.told (rw c.requires.due c.requires.polls) c.in-Err.ensures.bytes)
