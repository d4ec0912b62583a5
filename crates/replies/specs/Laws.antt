-- What holds of all messages.
--
-- What is written for a message is read as that message and as no other. The members of each object stand in byte order
-- of their names, each name once, as a JSON object should have it (RFC 8259, section 4).
use Rattle.std.specs.Prelude.{◌≡◌, ℕ, List, Some, Ok, IsUtf8, IfSome, IsTrue}
use Rattle.serde_json.specs.Data.{Data}
use Rattle.replies.specs.declared.message.Message.{Message}
use Rattle.replies.specs.declared.message.Message.TheVariants.{Response, Event}
use Rattle.replies.specs.declared.response.Outcome.{Outcome}
use Rattle.replies.specs.declared.response.Outcome.TheVariants.{Done, Refused}
use Rattle.message_parts.specs.Order.{is_ordered}
use Rattle.message_parts.specs.Forms.{AreTexts}
use Rattle.protocol.specs.Json.{json_of}
use Rattle.replies.specs.Bodies.{texts_in}
use Rattle.replies.specs.Events.{event_texts}
use Rattle.replies.specs.Messages.{message_data, text_of, IsProper, IsNumber}
use Rattle.replies.specs.Reading.{IsMessage, ReadsAs, reading_of}

-- ---- reading back

-- the texts of an outcome are UTF-8
abbrev pub HasOutcomeTexts : Outcome → Type 0
HasOutcomeTexts (Done body) = AreTexts (texts_in body)
HasOutcomeTexts (Refused refusal text) = IfSome text IsUtf8

-- the texts of a message are UTF-8, as they are in each that a program holds
abbrev pub HasTexts : Message → Type 0
HasTexts (Response response) = IsUtf8 response.command × HasOutcomeTexts response.outcome
HasTexts (Event event) = AreTexts (event_texts event)

-- the text of a message has the JSON value of the message
abbrev pub TextHasValue : Type 0
TextHasValue = (seq : ℕ) (message : Message) → IsNumber seq → IsProper message → HasTexts message
    → json_of (text_of seq message) ≡ Some (message_data seq message)

-- what is written for a message is read as that message
abbrev pub WrittenIsRead : Type 0
WrittenIsRead = (seq : ℕ) (message : Message) → IsNumber seq → IsProper message → HasTexts message
    → reading_of (text_of seq message) ≡ Ok (seq, message)

-- no two messages have one JSON value
abbrev pub ValuesDiffer : Type 0
ValuesDiffer = (value : Data) (seq other_seq : ℕ) (message other : Message) → IsMessage value seq message
    → IsMessage value other_seq other → (seq ≡ other_seq) × (message ≡ other)

-- what bytes are read as is what they are
abbrev pub ReadingIsRight : Type 0
ReadingIsRight = (bytes : List ℕ) → ReadsAs bytes (reading_of bytes)

-- ---- the order of members

-- in each object of a message the names rise, byte for byte
abbrev pub NamesRise : Type 0
NamesRise = (seq : ℕ) (message : Message) → IsTrue (is_ordered (message_data seq message))
