pub returns : Rattle.protocol.proofs.laws.keeps_the_name.Goals.returns
returns c = Rattle.protocol.proofs.Requests.keeps_the_name
