pub returns : Rattle.history_laws.proofs.laws.turns_begin_back.Goals.returns
returns c = Rattle.history_laws.proofs.GoingBack.turns_begin_back
