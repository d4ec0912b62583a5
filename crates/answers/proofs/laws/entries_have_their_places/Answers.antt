pub returns : Rattle.answers.proofs.laws.entries_have_their_places.Goals.returns
returns c = Rattle.answers.proofs.Looks.entries
