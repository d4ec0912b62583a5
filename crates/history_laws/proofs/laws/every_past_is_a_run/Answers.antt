pub returns : Rattle.history_laws.proofs.laws.every_past_is_a_run.Goals.returns
returns c = Rattle.history_laws.proofs.Recorded.every_past_is_a_run
