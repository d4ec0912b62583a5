use Rattle.message_parts.proofs.Appending.{object_written, and_then}

pub returns : Rattle.message_parts.proofs.stack_trace.StackTracePart.write.Goals.returns
returns c =
    object_written c.end_object.result c.in_ok-begin_object.ensures
    (and_then c.in_ok-part.ensures c.in_ok-number.ensures)
    c.end_object.ensures
