use Rattle.message_parts.proofs.Appending.{and_then, object_written}

pub returns : Rattle.message_parts.proofs.output.OutputPart.write.Goals.returns
returns c =
    let text = rw c.as_str.ensures at c.in_ok-text.ensures in
    object_written c.end_object.result c.in_ok-begin_object.ensures (and_then c.in_ok-part.ensures text) c.end_object.ensures
