pub returns : Rattle.session_laws.proofs.laws.joined_events_lead_to_the_same.Goals.returns
returns c = Rattle.session_laws.proofs.Joined.joined_lead_to_the_same
