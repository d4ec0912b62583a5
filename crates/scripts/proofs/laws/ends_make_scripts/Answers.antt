pub returns : Rattle.scripts.proofs.laws.ends_make_scripts.Goals.returns
returns c = Rattle.scripts.proofs.JoinedReadBack.finishing
