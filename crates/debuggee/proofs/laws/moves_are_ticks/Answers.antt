pub returns : Rattle.debuggee.proofs.laws.moves_are_ticks.Goals.returns
returns c p = (Rattle.stepping.proofs.Existing.the_tick p.machine).is
