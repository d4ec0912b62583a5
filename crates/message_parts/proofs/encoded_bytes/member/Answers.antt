use Rattle.message_parts.proofs.Appending.{member_if_written}

pub returns : Rattle.message_parts.proofs.encoded_bytes.member.Goals.returns
returns c =
    member_if_written _ _ c.write.result c.in_ok-key.ensures (rw c.as_slice.ensures at c.write.ensures)
