pub returns : Rattle.message_parts.proofs.part.EntriesPart.write.Goals.returns
returns g c =
    let items = rw c.as_slice.ensures at c.in_ok-write_each.ensures in
    Rattle.message_parts.proofs.Appending.array_written c.end_array.result c.in_ok-begin_array.ensures items c.end_array.ensures
