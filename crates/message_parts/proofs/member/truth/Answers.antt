use Rattle.std.proofs.Common.{refl}
use Rattle.message_parts.proofs.Appending.{member_if_written, IsWritten-token}

pub returns : Rattle.message_parts.proofs.member.truth.Goals.returns
returns c =
    member_if_written _ _ c.boolean.result c.in_ok-key.ensures (IsWritten-token _ refl (tt, tt) c.boolean.result c.boolean.ensures)
