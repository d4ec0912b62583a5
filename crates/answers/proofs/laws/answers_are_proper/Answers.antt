pub returns : Rattle.answers.proofs.laws.answers_are_proper.Goals.returns
returns c = Rattle.answers.proofs.Proper.answers_are_proper
