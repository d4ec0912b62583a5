pub returns : Rattle.mirror.proofs.laws.inputs_make_pasts.Goals.returns
returns c = Rattle.mirror.proofs.Lawful.inputs_make_pasts
