pub returns : Rattle.session_laws.proofs.laws.answers_are_proper.Goals.returns
returns c = Rattle.session_laws.proofs.Proper.answers_are_proper
