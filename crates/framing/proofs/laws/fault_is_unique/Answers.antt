use Rattle.framing.proofs.Common.{sym, ◌∙◌}
use Rattle.framing.proofs.Faults.{fault_read}

pub returns : Rattle.framing.proofs.laws.fault_is_unique.Goals.returns
returns c = λ limit rest fault other a b. (let same = sym (fault_read limit rest fault a) ∙ fault_read limit rest other b in cc)
