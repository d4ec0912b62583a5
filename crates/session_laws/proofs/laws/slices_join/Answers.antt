pub returns : Rattle.session_laws.proofs.laws.slices_join.Goals.returns
returns c = Rattle.session_laws.proofs.Joined.slices_join
