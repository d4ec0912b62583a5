pub returns : Rattle.session_laws.proofs.laws.answers_in_order.Goals.returns
returns c = Rattle.session_laws.proofs.Waiting.answers_in_order
