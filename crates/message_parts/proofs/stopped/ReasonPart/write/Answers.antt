use Rattle.std.proofs.Common.{refl}
use Rattle.message_parts.proofs.Appending.{IsWritten-token}

pub returns : Rattle.message_parts.proofs.stopped.ReasonPart.write.Goals.returns
returns c = IsWritten-token _ refl (tt, tt) c.string.result (rw c.name.ensures at c.string.ensures)
