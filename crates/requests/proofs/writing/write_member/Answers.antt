pub returns : Rattle.requests.proofs.writing.write_member.Goals.returns
returns c = Rattle.message_parts.proofs.Appending.member_if_written _ _ c.write_object.result c.in_ok-key.ensures c.write_object.ensures
