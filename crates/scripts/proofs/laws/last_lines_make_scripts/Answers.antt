pub returns : Rattle.scripts.proofs.laws.last_lines_make_scripts.Goals.returns
returns c = Rattle.scripts.proofs.ReadBack.scripts
