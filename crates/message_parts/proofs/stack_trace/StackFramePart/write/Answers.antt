use Rattle.message_parts.proofs.Appending.{object_written, and_then}

pub returns : Rattle.message_parts.proofs.stack_trace.StackFramePart.write.Goals.returns
returns c =
    let text4 = rw c.as_str.ensures at c.in_ok-text.ensures in
    object_written c.end_object.result c.in_ok-begin_object.ensures
    (and_then c.in_ok-number.ensures
    (and_then c.in_ok-number-2.ensures
    (and_then c.in_ok-address.ensures
    (and_then c.in_ok-number-3.ensures
    (and_then text4 c.in_ok-part_if.ensures)))))
    c.end_object.ensures
