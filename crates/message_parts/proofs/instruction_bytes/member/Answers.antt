pub returns : Rattle.message_parts.proofs.instruction_bytes.member.Goals.returns
returns c =
    Rattle.message_parts.proofs.Appending.member_if_written _ _ c.write.result c.in_ok-key.ensures c.write.ensures
