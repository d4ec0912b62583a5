pub returns : Rattle.protocol.proofs.laws.knows_requests_by_name.Goals.returns
returns c = Rattle.protocol.proofs.Requests.knows_by_name
