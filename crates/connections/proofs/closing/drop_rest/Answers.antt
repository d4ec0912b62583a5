use Rattle.std.proofs.Common.{arith}
use Rattle.connections.proofs.Dropping.{looks_on, next_dropped, rest_dropped}
use Rattle.connections.proofs.closing.drop_rest.Goals as goal

pub lingering-preserved-in-Ok-Look : goal.lingering-preserved-in-Ok-Look
lingering-preserved-in-Ok-Look g c =
    let next = rw c.in-Ok-Look.field-0-is at c.in-Ok-Look.ensures.next in
    let more = rw c.in-Ok-Look.field-0-is at c.in-Ok-Look.ensures.pieces in
    let same = rw c.in-Ok-Look.field-0-is at c.in-Ok-Look.ensures.waits in
    let few = looks_on c.lingering.lingering.pieces c.lingering.lingering.waits c.look-found.result next in
    let before = c.lingering.invariant in
    let long = before.long in
    let waits = before.waits in
    let kept = c.look-found.auto.room in
    record {
      long = omega (arith, long, kept);
      pieces = omega (arith, few, more);
      waits = omega (arith, same, waits);
      dropped = next_dropped _ _ _ _ _ _ c.look-found.result _ more (omega (arith, long, kept)) before.dropped c.look-found.ensures.bytes;
    }

pub returns-in-Err : goal.returns-in-Err
returns-in-Err g c =
    let before = c.lingering.invariant in
    let long = before.long in
    let kept = c.look-found.auto.room in
    rest_dropped _ _ _ _ _ c.look-found.result _ before.pieces (omega (arith, long, kept)) before.dropped c.look-found.ensures.bytes
