pub returns : Rattle.answers.proofs.laws.looks_are_proper.Goals.returns
returns c = Rattle.answers.proofs.ProperLooking.looks_are_proper
