pub returns : Rattle.message_parts.proofs.member.address.Goals.returns
returns c =
    Rattle.message_parts.proofs.Appending.member_if_written _ _ c.write.result c.in_ok-key.ensures c.write.ensures
