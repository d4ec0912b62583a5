pub returns : Rattle.session_laws.proofs.laws.initializes_once.Goals.returns
returns c = Rattle.session_laws.proofs.Proper.initializes_once
