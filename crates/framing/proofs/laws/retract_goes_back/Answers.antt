use Rattle.framing.proofs.Common.{fed}
use Rattle.framing.proofs.Pasts.{lent_keeps}

pub returns : Rattle.framing.proofs.laws.retract_goes_back.Goals.returns
returns c = λ kept s piece loans h. rw (lent_keeps loans (fed kept piece)).1 (record { reads = h.reads })
