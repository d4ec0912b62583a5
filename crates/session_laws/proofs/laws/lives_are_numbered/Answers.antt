pub returns : Rattle.session_laws.proofs.laws.lives_are_numbered.Goals.returns
returns c = Rattle.session_laws.proofs.Waiting.lives_are_numbered
