use Rattle.message_parts.proofs.Common.{arith, number, refl, unsigned, ◌<◌, ◌^◌}
use Rattle.message_parts.proofs.Appending.{IsWritten-token}

pub returns : Rattle.message_parts.proofs.part.number.Goals.returns
returns c =
    let small : c.args.number < 2 ^ 32 = c.ranges.number.fits in
    IsWritten-token (number (unsigned c.args.number)) refl (omega (arith, small), tt) c.u64.result (rw c.from.ensures at c.u64.ensures)
