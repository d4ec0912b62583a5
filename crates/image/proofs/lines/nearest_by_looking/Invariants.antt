abbrev pub invariant-loop-index : Rattle.image.proofs.lines.nearest_by_looking.Given.invariant-loop-index
invariant-loop-index l = Rattle.image.proofs.Nearest.Looked (Rattle.indexmap.specs.IndexMap.values l.labels) l.addr l.index l.found
