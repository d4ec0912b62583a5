use Rattle.std.proofs.Common.{refl, ◌∙◌}
use Rattle.message_parts.proofs.Appending.{IsWritten-token}

pub returns : Rattle.message_parts.proofs.encoded_bytes.write.Goals.returns
returns c =
    let is = c.as_str.ensures.value ∙ c.in_ok-text.ensures.text in
    IsWritten-token _ refl (tt, tt) c.string.result (rw is at c.string.ensures)
