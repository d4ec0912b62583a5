pub returns : Rattle.session_laws.proofs.laws.numbers_rise.Goals.returns
returns c = Rattle.session_laws.proofs.Waiting.numbers_rise
