use Rattle.framing.proofs.Minimal.{minimal_is_frame, minimal_is_read}

pub returns : Rattle.framing.proofs.laws.frames_are_read.Goals.returns
returns c = λ limit body more h small. (minimal_is_frame limit body h small, minimal_is_read limit body more h small)
