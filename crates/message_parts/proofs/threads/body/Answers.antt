use Rattle.message_parts.proofs.Appending.{object_written, object_is_written, member_written, array_is_written, item_then, no_item, and_then}

pub returns : Rattle.message_parts.proofs.threads.body.Goals.returns
returns c =
    object_written c.end_object-2.result c.in_ok-begin_object.ensures
    (member_written c.in_ok-key.ensures
    (array_is_written c.in_ok-begin_array.ensures
    (item_then (object_is_written c.in_ok-begin_object-2.ensures
    (and_then c.in_ok-number.ensures c.in_ok-text.ensures) c.in_ok-end_object.ensures) no_item)
    c.in_ok-end_array.ensures)) c.end_object-2.ensures
