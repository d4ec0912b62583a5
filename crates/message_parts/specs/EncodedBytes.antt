-- Bytes in base64, with padding (RFC 4648, section 4).
use Rattle.std.specs.Prelude.{◌≡◌, ℕ, nat_lt, Bool, List, [], ◌∷◌, Option, Some, None, if◌then◌else◌, codes, refl}
use Rattle.std.specs.List.{list_all}
use Rattle.base64.specs.Engines.{standard}
use Rattle.base64.specs.GeneralPurpose.{decoded_of, encode_of}
use Rattle.base64.specs.Rfc4648.{encode_symbols}
use Rattle.serde_json.specs.Data.{string}
use Rattle.serde_json.specs.Find.{as_str}
use Rattle.protocol.specs.Properties.{◌>>=◌}
use Rattle.message_parts.specs.Forms.{Form}

-- each is a byte
abbrev pub are_bytes : List ℕ → Bool
are_bytes numbers = list_all (λ n. nat_lt n 256) numbers

-- the numbers, if each is a byte
abbrev pub if_bytes : List ℕ → Option (List ℕ)
if_bytes numbers = if are_bytes numbers then Some numbers else None

-- the bytes that a text spells
unfoldable pub bytes_in : List ℕ → Option (List ℕ)
bytes_in text = decoded_of standard text >>= if_bytes

-- bytes
abbrev pub encoded_bytes : Form (List ℕ)
encoded_bytes = record {
  value = λ bytes. string (encode_of standard bytes);
  found = λ d. as_str d >>= bytes_in;
  is_in = are_bytes;
  texts = λ bytes. [];
}

two_of_padding : encode_of standard (0 ∷ 0 ∷ 0 ∷ 0 ∷ []) ≡ codes "AAAAAA=="
unfolding encode_symbols
two_of_padding = refl
