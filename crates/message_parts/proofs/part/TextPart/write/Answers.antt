use Rattle.std.proofs.Common.{refl}
use Rattle.message_parts.proofs.Appending.{IsWritten-token}

pub returns : Rattle.message_parts.proofs.part.TextPart.write.Goals.returns
returns c = IsWritten-token _ refl (tt, tt) c.string.result (rw c.as_str.ensures at c.string.ensures)
