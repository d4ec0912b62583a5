pub returns : Rattle.session_laws.proofs.laws.what_an_editor_knows_was_so.Goals.returns
returns c = Rattle.session_laws.proofs.Headline.Truth.headline
