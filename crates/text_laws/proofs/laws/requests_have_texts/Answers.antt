pub returns : Rattle.text_laws.proofs.laws.requests_have_texts.Goals.returns
returns c = Rattle.text_laws.proofs.Requests.requests_have_texts
