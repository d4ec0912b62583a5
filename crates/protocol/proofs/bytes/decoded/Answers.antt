use Rattle.std.proofs.Common.{sym, ap, ◌∙◌, Some}
use Rattle.base64.specs.Engines.{standard}
use Rattle.base64.specs.GeneralPurpose.{decoded_of}
use Rattle.protocol.proofs.Decoding.{decoded_of-ok, decoded_of-err}
use Rattle.protocol.proofs.bytes.decoded.Goals as goal

pub returns-in-Ok : goal.returns-in-Ok
returns-in-Ok c =
    ap (decoded_of standard) (sym c.as_bytes.ensures.value) ∙ decoded_of-ok standard _ _ c.in-Ok.ensures.ok
    ∙ ap (λ b. Some b) (sym c.from_vec.ensures)

pub returns-in-Err-DecodeError : goal.returns-in-Err-DecodeError
returns-in-Err-DecodeError c =
    λ _. ap (decoded_of standard) (sym c.as_bytes.ensures.value)
    ∙ decoded_of-err standard _ c.in-Err-DecodeError.field-0-0 (rw c.in-Err-DecodeError.field-0-is at c.in-Err-DecodeError.ensures.err)
