pub returns : Rattle.answers.proofs.laws.numbers_follow_each_other.Goals.returns
returns c = Rattle.answers.proofs.Entries.numbers_follow
