use Rattle.message_parts.proofs.Appending.{object_written, and_then, member_written}

pub returns : Rattle.replies.proofs.writing.refused.Goals.returns
returns c =
    let name = rw c.name.ensures at c.in_ok-text-2.ensures in
    object_written c.end_object.result c.in_ok-begin_object.ensures
    (and_then (member_written c.in_ok-key.ensures c.in_ok-error.ensures)
    (and_then c.in_ok-text.ensures (and_then name c.in_ok-last_members.ensures))) c.end_object.ensures
