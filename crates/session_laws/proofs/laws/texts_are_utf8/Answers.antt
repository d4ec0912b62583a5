pub returns : Rattle.session_laws.proofs.laws.texts_are_utf8.Goals.returns
returns c = Rattle.session_laws.proofs.Messages.Readable.texts_are_utf8
