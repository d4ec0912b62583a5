use Rattle.image.specs.Lines.{labels_of}
use Rattle.assembler.proofs.Placing.{IsReached}

abbrev pub invariant-loop-source : Rattle.assembler.proofs.layout.lay_out.Given.invariant-loop-source
invariant-loop-source l = IsReached l.limit l.program l.source-index (labels_of l.layout.labels.entries) l.layout.rows.items l.layout.end
