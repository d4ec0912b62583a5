pub returns-clause-memory : Rattle.protocol.proofs.request.read_request.Goals.returns-clause-memory
returns-clause-memory c e = Rattle.protocol.proofs.JsonTexts.json_of-is_utf8 c.args.body.now _ c.in_ok-value.ensures.value
