pub returns : Rattle.requests.proofs.entry.write_one.Goals.returns
returns g c = Rattle.message_parts.proofs.Appending.member_if_written _ _ c.write.result c.in_ok-key.ensures c.write.ensures
