use Rattle.framing.proofs.Common.{refl, retracted}
use Rattle.framing.proofs.Pasts.{lent_keeps}

pub returns : Rattle.framing.proofs.laws.retracts_once.Goals.returns
returns c = λ kept loans. rw (lent_keeps loans (retracted kept)).1 refl
