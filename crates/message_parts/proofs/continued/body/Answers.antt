use Rattle.message_parts.proofs.Appending.{and_then, object_written}

pub returns : Rattle.message_parts.proofs.continued.body.Goals.returns
returns c =
    object_written c.end_object.result c.in_ok-begin_object.ensures
    (and_then c.in_ok-truth.ensures c.in_ok-number.ensures) c.end_object.ensures
