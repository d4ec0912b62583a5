pub returns : Rattle.session_laws.proofs.laws.fault_is_of_the_bytes.Goals.returns
returns c = Rattle.session_laws.proofs.Cuts.fault_is_of_the_bytes
