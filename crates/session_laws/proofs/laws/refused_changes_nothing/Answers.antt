pub returns : Rattle.session_laws.proofs.laws.refused_changes_nothing.Goals.returns
returns c = Rattle.session_laws.proofs.Refusing.refused_changes_nothing
