pub returns : Rattle.stepping.proofs.laws.each_tick_answers.Goals.returns
returns c = Rattle.stepping.proofs.Advancing.each_tick_answers
