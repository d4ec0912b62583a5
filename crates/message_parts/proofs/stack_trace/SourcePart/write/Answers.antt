use Rattle.message_parts.proofs.Appending.{object_written, and_then}

pub returns : Rattle.message_parts.proofs.stack_trace.SourcePart.write.Goals.returns
returns c =
    let text0 = rw c.as_str.ensures at c.in_ok-text.ensures in
    let text1 = rw c.as_str-2.ensures at c.in_ok-text-2.ensures in
    object_written c.end_object.result c.in_ok-begin_object.ensures
    (and_then text0 text1)
    c.end_object.ensures
