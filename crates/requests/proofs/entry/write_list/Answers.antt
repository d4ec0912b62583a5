pub returns : Rattle.requests.proofs.entry.write_list.Goals.returns
returns g c =
    let entries = rw c.as_slice.ensures at c.write_array.ensures in
    Rattle.message_parts.proofs.Appending.member_if_written _ _ c.write_array.result c.in_ok-key.ensures entries
