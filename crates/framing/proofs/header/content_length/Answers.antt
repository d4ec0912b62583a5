use Rattle.framing.specs.Reading.{fields_in, lines_of}
use Rattle.framing.proofs.LineLemmas.{length_first}

pub loop-rest-init : Rattle.framing.proofs.header.content_length.Goals.loop-rest-init
loop-rest-init c = length_first c.args.limit (fields_in (lines_of c.args.text.now))
