pub returns : Rattle.replies.proofs.laws.values_differ.Goals.returns
returns c = Rattle.replies.proofs.Finding.IsMessage-one
