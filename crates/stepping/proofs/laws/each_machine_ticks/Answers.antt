pub returns : Rattle.stepping.proofs.laws.each_machine_ticks.Goals.returns
returns c = Rattle.stepping.proofs.Existing.the_tick
