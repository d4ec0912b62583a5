use Rattle.message_parts.proofs.Appending.{object_written}

pub returns : Rattle.requests.proofs.writing.write_object.Goals.returns
returns c = object_written c.end_object.result c.in_ok-begin_object.ensures c.in_ok-write_members.ensures c.end_object.ensures
