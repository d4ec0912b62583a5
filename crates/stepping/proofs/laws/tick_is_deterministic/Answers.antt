pub returns : Rattle.stepping.proofs.laws.tick_is_deterministic.Goals.returns
returns c = Rattle.stepping.proofs.Determined.tick_is_deterministic
