pub returns : Rattle.session_laws.proofs.laws.slices_stop_there.Goals.returns
returns c = Rattle.session_laws.proofs.Stopping.slices_stop_there
