use Rattle.message_parts.proofs.Appending.{object_written, object_is_written, and_then, member_written}

pub returns : Rattle.replies.proofs.writing.error.Goals.returns
returns c =
    let format = rw c.format_of.ensures at c.in_ok-text.ensures in
    let id = rw c.id.ensures at c.in_ok-number.ensures in
    object_written c.end_object-2.result c.in_ok-begin_object.ensures
    (member_written c.in_ok-key.ensures (object_is_written c.in_ok-begin_object-2.ensures (and_then format id) c.in_ok-end_object.ensures))
    c.end_object-2.ensures
