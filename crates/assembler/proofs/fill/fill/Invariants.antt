use Rattle.image.specs.Lines.{labels_of}
use Rattle.assembler.proofs.Filling.{IsFilled}

abbrev pub invariant-loop-source : Rattle.assembler.proofs.fill.fill.Given.invariant-loop-source
invariant-loop-source l = IsFilled l.limit (labels_of l.labels.entries) l.program l.source-index l.bytes.items l.address
