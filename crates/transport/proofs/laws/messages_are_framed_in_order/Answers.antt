pub returns : Rattle.transport.proofs.laws.messages_are_framed_in_order.Goals.returns
returns c = Rattle.transport.proofs.Calls.messages_are_framed_in_order
