-- Bytes that have a JSON value are read as that value.
use Rattle.replies.proofs.Common.{Bool, Data, false, List, None, read, refl, Some, sym, true, ℕ, ◌∙◌, ◌≡◌}
use Rattle.std.proofs.lemmas.Str.{IsUtf8-from_is_utf8}
use Rattle.std.specs.Str.{is_utf8}
use Rattle.protocol.specs.Json.{json_of}
use Rattle.protocol.proofs.JsonTexts.{json_of-text}

read_at : (bytes : List ℕ) (value : Data) (b : Bool) → is_utf8 bytes ≡ b → json_of bytes ≡ Some value → read bytes ≡ Some value
unfolding json_of
read_at bytes value true e h = sym (json_of-text bytes (IsUtf8-from_is_utf8 bytes e)) ∙ h
read_at bytes value false e h = let none : None ≡ Some value = rw e at h in absurd cc

pub read-from_json_of : (bytes : List ℕ) (value : Data) → json_of bytes ≡ Some value → read bytes ≡ Some value
read-from_json_of bytes value h = read_at bytes value (is_utf8 bytes) refl h
