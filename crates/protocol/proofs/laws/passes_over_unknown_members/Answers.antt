pub returns : Rattle.protocol.proofs.laws.passes_over_unknown_members.Goals.returns
returns c = Rattle.protocol.proofs.Meanings.message_of-put
