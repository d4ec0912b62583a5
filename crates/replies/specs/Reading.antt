-- How a message of the adapter is found again in a body.
--
-- A body is a message exactly where it has the JSON value of one, whose numbers are in their ranges and where a
-- response has a body of its command: spaces and the order of members do not matter, and a member more, a member less
-- or another value makes it none. No two messages have one JSON value, so there is at most one answer.
--
-- It can be found: what a value claims to be is one certain message, and the value is a message exactly where it is the
-- value of that one.
use Rattle.std.specs.Prelude.{◌≡◌, ◌≢◌, ℕ, List, Option, Some, None, IsSome, Result, Ok, Err, ⊤}
use Rattle.std.specs.Option.{ok_or}
use Rattle.serde_json.specs.Data.{Data}
use Rattle.protocol.specs.declared.request.MessageError.{MessageError}
use Rattle.protocol.specs.declared.request.MessageError.TheVariants.{NotJson, NotAMessage, BadSeq, NoMemory}
use Rattle.replies.specs.declared.message.Message.{Message}
use Rattle.protocol.specs.Json.{json_of}
use Rattle.replies.specs.Same.{is_same}
use Rattle.replies.specs.Messages.{message_data, IsProper, IsNumber}
use Rattle.replies.specs.Claims.{kept_if, claim_in}

-- the JSON value is that of this message with this number, and the two are in order
abbrev pub IsMessage : Data → ℕ → Message → Type 0
IsMessage value seq message = IsNumber seq × IsProper message × (value ≡ message_data seq message)

-- what the bytes are read as; where no memory is left, nothing is said
abbrev pub ReadsAs : List ℕ → Result (ℕ × Message) MessageError → Type 0
ReadsAs bytes (Ok found) = IsNumber found.0 × IsProper found.1 × (json_of bytes ≡ Some (message_data found.0 found.1))
ReadsAs bytes (Err NotJson) = json_of bytes ≡ None
ReadsAs bytes (Err NotAMessage) =
    IsSome (json_of bytes)
    × ((seq : ℕ) (message : Message) → IsNumber seq → IsProper message
    → json_of bytes ≢ Some (message_data seq message))
ReadsAs bytes (Err BadSeq) = ⊥
ReadsAs bytes (Err NoMemory) = ⊤

-- ---- the same as functions, for `exact` of `read_message` and private clauses

-- the number and the message that a JSON value is
abbrev pub message_in : Data → Option (ℕ × Message)
message_in value = kept_if (λ found. is_same value (message_data found.0 found.1)) (claim_in value)

-- what a JSON value is read as, where there is one
abbrev pub reading_in : Option Data → Result (ℕ × Message) MessageError
reading_in None = Err NotJson
reading_in (Some value) = ok_or (message_in value) NotAMessage

-- what the bytes are read as, where memory is left
abbrev pub reading_of : List ℕ → Result (ℕ × Message) MessageError
reading_of bytes = reading_in (json_of bytes)
