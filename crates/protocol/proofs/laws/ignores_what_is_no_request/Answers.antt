pub returns : Rattle.protocol.proofs.laws.ignores_what_is_no_request.Goals.returns
returns c = Rattle.protocol.proofs.Meanings.incoming_of-ignored
