pub returns : Rattle.history_laws.proofs.laws.no_history_exactly.Goals.returns
returns c = Rattle.history_laws.proofs.Refused.no_history_exactly
