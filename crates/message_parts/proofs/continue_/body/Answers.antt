use Rattle.message_parts.proofs.Appending.{object_written}

pub returns : Rattle.message_parts.proofs.continue_.body.Goals.returns
returns c =
    object_written c.end_object.result c.in_ok-begin_object.ensures c.in_ok-truth.ensures c.end_object.ensures
