pub returns-clause-utf8 : Rattle.protocol.proofs.text.Text.from_string.Goals.returns-clause-utf8
returns-clause-utf8 c = Rattle.std.proofs.lemmas.Str.IsUtf8-string_bytes c.args.string
