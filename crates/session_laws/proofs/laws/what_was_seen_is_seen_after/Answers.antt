pub returns : Rattle.session_laws.proofs.laws.what_was_seen_is_seen_after.Goals.returns
returns c = Rattle.session_laws.proofs.Headline.Seen.seen_after
