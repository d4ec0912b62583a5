-- Bytes are found again in their encoding.
use Rattle.message_parts.proofs.Common.{[], and_parts, arith, as_str, Bool, false, IfSome, if◌then◌else◌, List, lt-ltb, ltb-true, None, refl, Some, suc, true, zero, ℕ, ◌∷◌, ◌≡◌}
use Rattle.std.proofs.lemmas.Str.{IsUtf8-from_ascii}
use Rattle.base64.proofs.EngineFacts.{IsAscii-encode_of, decode_of-encode_of}
use Rattle.base64.specs.Engines.{standard}
use Rattle.base64.specs.GeneralPurpose.{IsBytes, decoded_of, encode_of}
use Rattle.protocol.proofs.Decoding.{decoded_of-ok}
use Rattle.message_parts.specs.EncodedBytes.{are_bytes, bytes_in, encoded_bytes, if_bytes}
use Rattle.message_parts.proofs.Lawful.{Lawful, then_is}

-- the test says what it tests
pub IsBytes-are_bytes : (numbers : List ℕ) → are_bytes numbers ≡ true → IsBytes numbers
IsBytes-are_bytes [] h i = omega arith
IsBytes-are_bytes (n ∷ ns) h zero = ltb-true n 256 (and_parts _ _ h).0
IsBytes-are_bytes (n ∷ ns) h (suc i) = IsBytes-are_bytes ns (and_parts _ _ h).1 i

pub are_bytes-IsBytes : (numbers : List ℕ) → IsBytes numbers → are_bytes numbers ≡ true
are_bytes-IsBytes [] h = refl
are_bytes-IsBytes (n ∷ ns) h = rw (lt-ltb n 256 (h 0), are_bytes-IsBytes ns (λ i. h (suc i))) refl

pub decoded_of-encode_of : (bytes : List ℕ) → are_bytes bytes ≡ true → decoded_of standard (encode_of standard bytes) ≡ Some bytes
decoded_of-encode_of bytes h =
    decoded_of-ok standard (encode_of standard bytes) bytes (decode_of-encode_of standard bytes refl (IsBytes-are_bytes bytes h))

pub bytes_in-encode_of : (bytes : List ℕ) → are_bytes bytes ≡ true → bytes_in (encode_of standard bytes) ≡ Some bytes
unfolding bytes_in
bytes_in-encode_of bytes h = rw (decoded_of-encode_of bytes h, h) refl

-- what is decoded is found, where it is bytes
pub bytes_in-decoded_of : (text bytes : List ℕ) → decoded_of standard text ≡ Some bytes → IsBytes bytes → bytes_in text ≡ Some bytes
unfolding bytes_in
bytes_in-decoded_of text bytes is h = rw (is, are_bytes-IsBytes bytes h) refl

-- and nothing where nothing is
pub bytes_in-none : (text : List ℕ) → decoded_of standard text ≡ None → bytes_in text ≡ None
unfolding bytes_in
bytes_in-none text is = rw is refl

-- what is found is bytes
kept_if : (numbers : List ℕ) → IfSome (if_bytes numbers) (λ b. are_bytes b ≡ true)
kept_if numbers = by_test (are_bytes numbers) refl where
  by_test : (b : Bool) → are_bytes numbers ≡ b → IfSome (if b then Some numbers else None) (λ b. are_bytes b ≡ true)
  by_test true e = e
  by_test false e = tt

kept_bytes : (text : List ℕ) → IfSome (bytes_in text) (λ b. are_bytes b ≡ true)
unfolding bytes_in
kept_bytes text = then_is _ (decoded_of standard text) if_bytes kept_if

pub lawful_encoded_bytes : {n : ℕ} → Lawful n encoded_bytes
lawful_encoded_bytes {n} = record {
  back = λ x h. bytes_in-encode_of x h;
  kept = λ d. then_is _ (as_str d) bytes_in kept_bytes;
  shallow = λ x. omega arith;
  no_float = λ x. refl;
  ordered = λ x. refl;
  small = λ x h. tt;
  plain = λ x h t. IsUtf8-from_ascii (encode_of standard x) (IsAscii-encode_of standard x);
}
