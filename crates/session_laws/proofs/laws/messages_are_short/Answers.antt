pub returns : Rattle.session_laws.proofs.laws.messages_are_short.Goals.returns
returns c = Rattle.session_laws.proofs.Messages.Readable.messages_are_short
