pub returns : Rattle.answers.proofs.laws.entries_tell_the_list.Goals.returns
returns c = Rattle.answers.proofs.Entries.entries_tell
