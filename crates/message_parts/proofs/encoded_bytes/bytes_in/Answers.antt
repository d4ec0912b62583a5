use Rattle.std.proofs.Common.{Some, sym, ap, ◌∙◌}
use Rattle.base64.specs.Engines.{standard}
use Rattle.base64.specs.GeneralPurpose.{decoded_of}
use Rattle.protocol.proofs.Decoding.{decoded_of-ok, decoded_of-err}
use Rattle.message_parts.proofs.EncodedBytes.{bytes_in-decoded_of, bytes_in-none}
use Rattle.message_parts.proofs.encoded_bytes.bytes_in.Goals as goal

pub returns-in-Ok : goal.returns-in-Ok
returns-in-Ok c =
    let found = ap (decoded_of standard) (sym c.as_bytes.ensures.value) ∙ decoded_of-ok standard _ _ c.in-Ok.ensures.ok in
    bytes_in-decoded_of _ _ found c.in-Ok.ensures.bytes ∙ ap (λ b. Some b) (sym c.from_vec.ensures)

pub returns-in-Err-DecodeError : goal.returns-in-Err-DecodeError
returns-in-Err-DecodeError c =
    λ _. bytes_in-none _ (ap (decoded_of standard) (sym c.as_bytes.ensures.value)
    ∙ decoded_of-err standard _ c.in-Err-DecodeError.field-0-0 (rw c.in-Err-DecodeError.field-0-is at c.in-Err-DecodeError.ensures.err))
