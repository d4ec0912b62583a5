use Rattle.message_parts.proofs.Appending.{and_then, object_written}
use Rattle.message_parts.proofs.disassemble.InstructionPart.write.Goals as goal

pub returns-in_ok-member-in-Valid : goal.returns-in_ok-member-in-Valid
returns-in_ok-member-in-Valid c =
    let text = rw c.as_str.ensures at c.in_ok-text-in-Valid.ensures in
    rw c.in-Valid.is (object_written c.end_object.result c.in_ok-begin_object-in-Valid.ensures
    (and_then c.in_ok-address-in-Valid.ensures (and_then text c.in_ok-member-in-Valid.ensures)) c.end_object.ensures)

pub returns-in_ok-text-in-Invalid-2 : goal.returns-in_ok-text-in-Invalid-2
returns-in_ok-text-in-Invalid-2 c =
    rw c.in-Invalid.is (object_written c.end_object-in-Invalid.result c.in_ok-begin_object-in-Invalid.ensures
    (and_then c.in_ok-address-in-Invalid.ensures
    (and_then c.in_ok-text-in-Invalid.ensures c.in_ok-text-in-Invalid-2.ensures)) c.end_object-in-Invalid.ensures)
