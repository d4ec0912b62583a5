pub returns : Rattle.mirror.proofs.laws.faults_stay.Goals.returns
returns c = Rattle.mirror.proofs.Lawful.faults_stay
