pub returns : Rattle.session_laws.proofs.laws.successes_are_known.Goals.returns
returns c = Rattle.session_laws.proofs.Headline.Knowing.successes_are_known
