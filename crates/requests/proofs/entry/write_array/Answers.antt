use Rattle.message_parts.proofs.Appending.{array_written}

pub returns : Rattle.requests.proofs.entry.write_array.Goals.returns
returns g c = array_written c.end_array.result c.in_ok-begin_array.ensures c.in_ok-write_each.ensures c.end_array.ensures
