pub returns : Rattle.client.proofs.laws.what_a_client_knows_was_so.Goals.returns
returns c = Rattle.client.proofs.Following.what_a_client_knows_was_so
