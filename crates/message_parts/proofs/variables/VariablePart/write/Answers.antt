use Rattle.message_parts.proofs.Appending.{object_written, and_then}

pub returns : Rattle.message_parts.proofs.variables.VariablePart.write.Goals.returns
returns c =
    let text = rw c.as_str.ensures at c.in_ok-text.ensures in
    object_written c.end_object.result c.in_ok-begin_object.ensures
    (and_then text (and_then c.in_ok-address.ensures c.in_ok-number.ensures)) c.end_object.ensures
