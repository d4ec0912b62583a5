pub returns : Rattle.range_laws.proofs.laws.requests_give_bytes.Goals.returns
returns c = Rattle.range_laws.proofs.Requests.requests_give_bytes
