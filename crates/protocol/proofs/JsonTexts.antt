-- What a body is as JSON, from what the library says of reading it.
use Rattle.std.proofs.Common.{◌≡◌, ℕ, List, Bool, true, false, Option, Some, None, Err, cond, refl}
use Rattle.std.proofs.lemmas.Str.{IsUtf8-from_is_utf8, is_utf8-from_IsUtf8}
use Rattle.std.specs.Str.{IsUtf8, is_utf8}
use Rattle.serde_json.specs.Data.{Data}
use Rattle.serde_json.specs.Read.{read}
use Rattle.serde_json.specs.declared.error.Category.{Category}
use Rattle.serde_json.specs.declared.error.Category.TheVariants.{Memory}
use Rattle.protocol.specs.Json.{GivesValue, fault_of, json_of}

-- text is read
pub json_of-text : (body : List ℕ) → IsUtf8 body → json_of body ≡ read body
unfolding json_of
json_of-text body is_text = rw (is_utf8-from_IsUtf8 body is_text)

none_at : (b : Bool) (found : Option Data) → (b ≡ true → found ≡ None) → cond b found None ≡ None
none_at true found unread = unread refl
none_at false found unread = refl

-- what is no text, or is text that is not read, has no value
pub json_of-unread : (body : List ℕ) → (IsUtf8 body → read body ≡ None) → json_of body ≡ None
unfolding json_of
json_of-unread body unread =
    none_at (is_utf8 body) (read body) (λ e. unread (IsUtf8-from_is_utf8 body e))

-- where the library finds memory, its fault is that of the text
pub gives_fault : (k : Category) (meant : Option Data) → ((k ≡ Memory → ⊥) → meant ≡ None) → GivesValue (Err (fault_of k)) meant
gives_fault Memory meant h = tt
gives_fault _ meant h = h (λ e. cc)

-- a body that has a value is text
utf8_if : (b : Bool) (found : Option Data) (value : Data) → cond b found None ≡ Some value → b ≡ true
utf8_if true found value e = refl
utf8_if false found value e = cc

pub json_of-is_utf8 : (body : List ℕ) (value : Data) → json_of body ≡ Some value → IsUtf8 body
unfolding json_of
json_of-is_utf8 body value e = IsUtf8-from_is_utf8 body (utf8_if (is_utf8 body) (read body) value e)
