pub returns : Rattle.scripts.proofs.laws.paths_have_lines.Goals.returns
returns c = Rattle.scripts.proofs.CopyPaths.paths
