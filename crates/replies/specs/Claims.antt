-- For `exact` of `read_message` and private clauses: which message a JSON value claims to be.
--
-- Most of a message is fixed by a few members: its number and its type; of a response the request's number and
-- command, whether the request succeeded, and the number of the refusal where it did not; of an event its name. These,
-- and the body, are the ones that are looked at here. What they claim may be false, as where another member is wrong or
-- missing.
use Rattle.std.specs.Prelude.{ℕ, ◌^◌, ◌&&◌, List, Bool, true, false, nat_lt, if◌then◌else◌, Option, Some, None}
use Rattle.std.specs.Prelude.{option_map, option_and_then, codes, bytes_eq}
use Rattle.serde_json.specs.Data.{Data}
use Rattle.serde_json.specs.Find.{get, as_bool, as_number, as_str, as_u64}
use Rattle.message_parts.specs.Forms.{whole}
use Rattle.protocol.specs.Refusals.{has_text, refusal_of}
use Rattle.protocol.specs.declared.refusal.Refusal.{Refusal}
use Rattle.replies.specs.declared.response.Response as response
use Rattle.replies.specs.declared.response.Outcome.{Outcome}
use Rattle.replies.specs.declared.response.Outcome.TheVariants.{Done, Refused}
use Rattle.replies.specs.declared.message.Message.{Message}
use Rattle.replies.specs.declared.message.Message.TheVariants.{Response, Event}
use Rattle.replies.specs.declared.event.Event as event
use Rattle.protocol.specs.Properties.{◌>>=◌}
use Rattle.replies.specs.Bodies.{body_in}
use Rattle.replies.specs.Events.{event_named}

-- the value, if it passes the test
abbrev pub kept_if : {A : Type 0} → (A → Bool) → Option A → Option A
kept_if test found = option_and_then (λ a. if test a then Some a else None) found

-- the whole number of this name
abbrev pub number_at : List ℕ → Data → Option ℕ
number_at name value = option_and_then as_u64 (option_and_then as_number (get name value))

-- the text of this name
abbrev pub text_at : List ℕ → Data → Option (List ℕ)
text_at name value = option_and_then as_str (get name value)

-- the truth value of this name
abbrev pub truth_at : List ℕ → Data → Option Bool
truth_at name value = option_and_then as_bool (get name value)

-- the message's number
abbrev pub seq_in : Data → Option ℕ
seq_in value = kept_if (λ n. nat_lt 0 n && nat_lt n (2 ^ 31)) (number_at (codes "seq") value)

-- what is said of a refusal
abbrev pub error_in : Data → Option Data
error_in value = option_and_then (get (codes "error")) (get (codes "body") value)

-- the refusal
abbrev pub refusal_in : Data → Option Refusal
refusal_in value = option_and_then refusal_of (option_and_then (number_at (codes "id")) (error_in value))

-- its own text, where it has one
abbrev pub own_text : Bool → Data → Option (Option (List ℕ))
own_text true value = option_map (λ s. Some s) (option_and_then (text_at (codes "format")) (error_in value))
own_text false value = Some None

-- the refusal, with its text
abbrev pub refused_in : Data → Option Outcome
refused_in value =
    option_and_then (λ refusal. option_map (λ text. Refused refusal text) (own_text (has_text refusal) value))
    (refusal_in value)

-- what became of a request of this command
abbrev pub outcome_in : List ℕ → Data → Bool → Option Outcome
outcome_in command value true = option_map Done (body_in command value)
outcome_in command value false = refused_in value

-- the response that the value claims to be
abbrev pub response_in : Data → Option response.Response
response_in value = do
  request_seq ← get (codes "request_seq") value >>= whole.found
  command ← text_at (codes "command") value
  success ← truth_at (codes "success") value
  outcome ← outcome_in command value success
  Some (record { request_seq = request_seq; command = command; outcome = outcome })

-- the event that the value claims to be
abbrev pub event_in : Data → Option event.Event
event_in value = do
  name ← text_at (codes "event") value
  event_named name value

-- the message of this type that the value claims to be
abbrev pub message_of : List ℕ → Data → Option Message
message_of kind value =
    if bytes_eq kind (codes "response") then option_map Response (response_in value)
    else if bytes_eq kind (codes "event") then option_map Event (event_in value)
    else None

-- the number and the message that the value claims to be
abbrev pub claim_in : Data → Option (ℕ × Message)
claim_in value = do
  seq ← seq_in value
  kind ← text_at (codes "type") value
  message ← message_of kind value
  Some (seq, message)
