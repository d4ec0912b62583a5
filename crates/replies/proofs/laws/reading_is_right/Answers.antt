pub returns : Rattle.replies.proofs.laws.reading_is_right.Goals.returns
returns c = Rattle.replies.proofs.Finding.ReadsAs-reading_of
