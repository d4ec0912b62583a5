pub returns : Rattle.answers.proofs.laws.each_has_its_entry.Goals.returns
returns c = Rattle.answers.proofs.Entries.each_has_its_entry
