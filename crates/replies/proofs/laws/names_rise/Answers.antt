pub returns : Rattle.replies.proofs.laws.names_rise.Goals.returns
returns c = Rattle.replies.proofs.Values.is_ordered-message_data
