-- What the library says of a text in base64, less its error.
use Rattle.std.proofs.Common.{◌≡◌, ℕ, List, Some, None, Ok, Err, ap, Result, refl}
use Rattle.std.specs.Result.{result_ok}
use Rattle.base64.proofs.EngineFacts.{decode_of_iff}
use Rattle.base64.specs.Engines.{standard}
use Rattle.base64.specs.GeneralPurpose.{decode_of, decoded_of}
use Rattle.base64.specs.declared.decode.DecodeError.{DecodeError}
use Rattle.base64.specs.declared.engine.general_purpose.GeneralPurpose.{GeneralPurpose}
use Rattle.protocol.specs.Laws.{ReadsEncodings}

pub decoded_of-ok : (e : GeneralPurpose) (text bytes : List ℕ) → decode_of e text ≡ Ok bytes → decoded_of e text ≡ Some bytes
unfolding decoded_of
decoded_of-ok e text bytes h = ap result_ok h

-- what is not decoded
pub decoded_of-err : (e : GeneralPurpose) (text : List ℕ) (fault : DecodeError) → decode_of e text ≡ Err fault → decoded_of e text ≡ None
unfolding decoded_of
decoded_of-err e text fault h = ap result_ok h

ok_is : (result : Result (List ℕ) DecodeError) (bytes : List ℕ) → result_ok result ≡ Some bytes → result ≡ Ok bytes
ok_is (Ok found) bytes h = cc
ok_is (Err fault) bytes h = absurd (cc)

decoded_of-is : (e : GeneralPurpose) (text bytes : List ℕ) → decoded_of e text ≡ Some bytes → decode_of e text ≡ Ok bytes
unfolding decoded_of
decoded_of-is e text bytes h = ok_is (decode_of e text) bytes h

-- the bytes of a text are those that it encodes
pub reads_encodings : ReadsEncodings
reads_encodings text bytes text_is bytes_is =
    let strict = decode_of_iff standard text bytes (refl, refl) text_is bytes_is in
    (λ h. strict.0 (decoded_of-is standard text bytes h), λ h. decoded_of-ok standard text bytes (strict.1 h))
