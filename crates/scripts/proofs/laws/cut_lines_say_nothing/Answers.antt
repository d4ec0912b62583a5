pub returns : Rattle.scripts.proofs.laws.cut_lines_say_nothing.Goals.returns
returns c = Rattle.scripts.proofs.ReadBack.cuts
