-- JSON texts (RFC 8259).
--
-- A body is a JSON text or it is not. Where it is one, it spells a value, and all that the adapter
-- does with it is said of that value. Which value a text spells is the definition of the library
-- `serde_json` (`Rattle.serde_json.specs.Read`), which settles what the standard leaves open:
--
-- - Of the members of an object that have one name, the last stays.
-- - Arrays and objects nest at most 127 deep.
-- - A whole number that fits 64 bits is kept as it is. Any other number, `-0` and `1.0` among them,
--   is the nearest float, and one that is too large for a float has no value.
-- - An escape for half of a surrogate pair has no value, and neither has a text that begins with a
--   byte order mark.
use Rattle.std.specs.Prelude.{◌≡◌, ℕ, List, Option, Some, None, Result, Ok, Err, if◌then◌else◌}
use Rattle.std.specs.Str.{is_utf8}
use Rattle.serde_json.specs.Data.{Data}
use Rattle.serde_json.specs.Read.{read}
use Rattle.serde_json.specs.View.{view}
use Rattle.serde_json.specs.declared.value.Value.{Value}
use Rattle.serde_json.specs.declared.error.Category.{Category}
use Rattle.serde_json.specs.declared.error.Category.TheVariants.{Memory}
use Rattle.protocol.specs.declared.request.MessageError.{MessageError}
use Rattle.protocol.specs.declared.request.MessageError.TheVariants.{NotJson, NotAMessage, BadSeq, NoMemory}

-- the value that the bytes spell, where they are UTF-8 and a JSON text
unfoldable pub json_of : List ℕ → Option Data
json_of bytes = if is_utf8 bytes then read bytes else None

-- why the library gives no value, for a private clause alone
abbrev pub fault_of : Category → MessageError
fault_of Memory = NoMemory
fault_of _ = NotJson

-- what was read is the value that is meant, or none is meant, or memory ran out
abbrev pub GivesValue : Result Value MessageError → Option Data → Type 0
GivesValue (Ok value) meant = meant ≡ Some (view value)
GivesValue (Err NotJson) meant = meant ≡ None
GivesValue (Err NoMemory) meant = Unit {0}
GivesValue (Err NotAMessage) meant = ⊥
GivesValue (Err BadSeq) meant = ⊥
