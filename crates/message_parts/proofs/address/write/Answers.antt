use Rattle.message_parts.proofs.Common.{address_text, IsUtf8-are_ascii, refl, ◌∙◌}
use Rattle.message_parts.proofs.Addresses.{ascii-address_text}
use Rattle.message_parts.proofs.Appending.{IsWritten-token}
use Rattle.message_parts.proofs.address.write.Goals as goal

pub unreachable-requires : goal.unreachable-requires
unreachable-requires c =
    c.in-Err.ensures.cases.0
    (rw c.text_of.ensures (IsUtf8-are_ascii (address_text c.args.word) (ascii-address_text c.args.word c.ranges.word.fits)))

pub returns : goal.returns
returns c =
    let is = c.in-Ok.ensures.cases.0 ∙ c.text_of.ensures in
    IsWritten-token _ refl (tt, tt) c.string.result (rw is at c.string.ensures)
