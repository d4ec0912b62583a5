use Rattle.message_parts.proofs.Appending.{and_then, if_then, object_written}

pub returns : Rattle.message_parts.proofs.stopped.StoppedPart.write.Goals.returns
returns c =
    object_written c.end_object.result c.in_ok-begin_object.ensures
    (and_then c.in_ok-truth.ensures
    (if_then _ _ _ c.in_ok-unless_empty.ensures
    (and_then c.in_ok-part.ensures
    (if_then _ _ _ c.in_ok-part_if.ensures c.in_ok-number.ensures))))
    c.end_object.ensures
