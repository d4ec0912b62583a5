use Rattle.framing.proofs.Common.{Reads, subst}
use Rattle.framing.proofs.Framing.{reading_is_right}

pub returns : Rattle.framing.proofs.laws.bodies_are_right.Goals.returns
returns c = λ kept s h. subst (Reads kept.limit s.fed) h.reads (reading_is_right kept.limit s.fed)
